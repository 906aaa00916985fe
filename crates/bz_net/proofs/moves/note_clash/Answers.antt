use Rattle.std.proofs.Common.{◌≡◌, ◌<◌, ◌≤◌, false, length, map, sym, ap, subst, ◌∙◌}
use Rattle.bz_flat.specs.Flats.{site_of}
use Rattle.bz_model.specs.Clashes.{is_mixer}
use Rattle.bz_model.specs.Nets.{Site, site_at}
use Rattle.bz_net.specs.Noted.{IsHolder}
use Rattle.bz_net.proofs.Asking.{noted_nobody, noted_plain}
use Rattle.bz_net.proofs.Sites.{site_at_map}
use Rattle.bz_net.proofs.moves.note_clash.Goals as goal

pub returns-in_default : goal.returns-in_default
returns-in_default c =
    let sites = map site_of c.args.sites.now in
    noted_nobody sites c.args.phases.now c.args.chan c.args.noted.now c.requires.ends c.requires.watches (subst (IsHolder sites c.args.chan) c.in_default.is c.requires.holder)

pub returns-else-is_mixer : goal.returns-else-is_mixer
returns-else-is_mixer c =
    let sites = map site_of c.args.sites.now in let comp = c.in-Some.comp in
    let range : (0 < comp) × (comp ≤ length c.args.sites.now) = rw c.in-Some.is at c.requires.end in
    let own : site_at sites comp ≡ site_of c.site_in.result.now = site_at_map c.args.sites.now comp c.site_in.result.now range.0 range.1 c.site_in.ensures in
    let plain : is_mixer (site_at sites comp).kind ≡ false = ap (λ (s : Site). is_mixer s.kind) own ∙ sym c.is_mixer.ensures ∙ c.if-is_mixer.false in
    noted_plain sites c.args.phases.now c.args.chan c.args.noted.now c.requires.ends c.requires.watches comp (subst (IsHolder sites c.args.chan) c.in-Some.is c.requires.holder) plain
