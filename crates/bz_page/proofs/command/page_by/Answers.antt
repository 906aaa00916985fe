use Rattle.std.proofs.Common.{inl}
use Rattle.std.proofs.KnownBytes.{Keeps-refl}
use Rattle.bz_page.specs.Pages.{blank_of}
use Rattle.bz_page.proofs.Paged.{paged, paged_short}
use Rattle.bz_page.proofs.command.page_by.Goals as goal

pub returns-in-Err : goal.returns-in-Err
returns-in-Err g c = inl (c.in-Err.ensures, Keeps-refl _)

pub returns-in-Ok-put_told_page : goal.returns-in-Ok-put_told_page
returns-in-Ok-put_told_page g c =
    let out = rw c.as_slice-part.ensures.value at c.in-Ok-put_told_page.ensures in
    paged (blank_of c.args.template) c.args.case c.args.trace.now c.in-Ok.found.2.items c.in-Ok.found.0 c.in-Ok.found.1 c.args.files.now _ c.in-Ok.ensures _ _ out

pub returns : goal.returns
returns g c =
    let out = rw c.as_slice-part.ensures.value at c.in-Err-put_told_page.ensures in
    paged_short (blank_of c.args.template) c.args.case c.args.trace.now c.in-Ok.found.2.items c.in-Ok.found.0 c.in-Ok.found.1 c.args.files.now _ c.in-Ok.ensures _ _ c.in-Err-put_told_page.fault out
