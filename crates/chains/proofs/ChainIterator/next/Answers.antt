use Rattle.std.proofs.Common.{arith, refl}
use Rattle.chains.proofs.Laws.{met, met_none, met_refused, left_falls}
use Rattle.chains.proofs.ChainIterator.next.Goals as goal

pub link_of-onward-requires : goal.link_of-onward-requires
link_of-onward-requires c =
    let e = rw c.in-Ok-Some.field-0-is at c.in-Ok-Some.ensures in
    let m = met _ _ _ _ _ _ e in
    omega arith

pub returns-in-Ok-None-clause-steps : goal.returns-in-Ok-None-clause-steps
returns-in-Ok-None-clause-steps c =
    let e = rw c.in-Ok-None.field-0-is at c.in-Ok-None.ensures in
    met_none _ _ _ _ _ e

pub returns-in-Ok-Some-clause-steps : goal.returns-in-Ok-Some-clause-steps
returns-in-Ok-Some-clause-steps c =
    let e = rw c.in-Ok-Some.field-0-is at c.in-Ok-Some.ensures in
    let m = met _ _ _ _ _ _ e in
    record { is = m.is; archive_stays = refl; used_stays = refl; kind_stays = refl; last_is = refl; link_is = c.link_of-onward.ensures.0 }

pub returns-in-Ok-Some-clause-goes : goal.returns-in-Ok-Some-clause-goes
returns-in-Ok-Some-clause-goes c =
    let e = rw c.in-Ok-Some.field-0-is at c.in-Ok-Some.ensures in
    let m = met _ _ _ _ _ _ e in
    record { on = λ _. (c.requires, tt, left_falls _ m.link m.rises m.below); keeps = c.requires; rests = λ _. tt }

pub returns-in-Err-clause-steps : goal.returns-in-Err-clause-steps
returns-in-Err-clause-steps c =
    let r = met_refused _ _ _ _ _ _ c.in-Err.ensures in
    record { some = r.0; is = r.1 }
