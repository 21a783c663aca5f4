use Rattle.std.proofs.Common.{◌∙◌}
use Rattle.host.proofs.Previewing.{host_not_previewed, host_previewed}
use Rattle.host.proofs.sandegmur_preview.Goals as goal

pub returns-in-Err : goal.returns-in-Err
returns-in-Err c =
    let a = c.args in
    let e = c.in-Err.ensures in
    rw c.number.ensures (host_not_previewed a.p a.k a.list.now a.res.now e.0 e.1)

pub returns-in-Ok : goal.returns-in-Ok
returns-in-Ok c =
    let a = c.args in
    let e = c.in-Ok.ensures in
    host_previewed a.p a.k a.list.now a.res.now e.0 c.sandegmur_settle-number.ensures (c.undo.ensures ∙ e.2)
