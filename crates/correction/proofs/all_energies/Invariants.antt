use Rattle.std.proofs.Common.{◌≡◌, drop}
use Rattle.std.specs.List.{list_all}
use Rattle.rules.specs.Correction.{is_energy}
use Rattle.correction.proofs.all_energies.Given as goal

abbrev pub invariant-loop-place : goal.invariant-loop-place
invariant-loop-place l = list_all is_energy l.energies ≡ list_all is_energy (drop l.place l.energies)
