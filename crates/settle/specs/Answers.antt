-- What the answer of the code stands for.
use Rattle.std.specs.Prelude.{pos, Result, Ok, Err}
use Rattle.rules.specs.Results.{number}
use Rattle.rules.specs.Settle.{Answer}
use Rattle.rules.specs.declared.refusal.Refusal.{Refusal}
use Rattle.settle.specs.declared.Settled.{Settled}

-- 01's number and values for each case
abbrev pub answered : Result Settled Refusal → Answer
answered (Ok s) = record { number = 0; count = s.count; total = s.total.0; links = s.links }
answered (Err e) = record { number = number e; count = 0; total = pos 0; links = 0 }
