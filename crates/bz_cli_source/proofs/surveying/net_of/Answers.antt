use Rattle.bz_sexpr.specs.Forms.{forest_view}
use Rattle.bz_cli_source.proofs.surveying.net_of.Goals as goal

pub returns-clause-read : goal.returns-clause-read
returns-clause-read c = record {
  names = record {
    forms = forest_view c.in_ok-forest.forest;
    spelt = c.in_ok-forest.ensures.right;
    read = rw c.forms.ensures at c.in_ok-parts.ensures.ok;
  };
  chosen = c.in_ok-name.ensures.ok;
  net = rw c.as_slice.ensures.value at c.in_ok-flat.ensures.ok;
  sound = rw c.as_slice.ensures.value at c.in_ok-flat.ensures.sound;
  stand = rw c.forms-2.ensures at c.in_ok-lines.ensures;
}
