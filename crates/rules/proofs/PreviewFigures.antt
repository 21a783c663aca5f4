-- The worked examples of the preview hold, by computation.
use mathlib.Core.Path.{refl}
use Rattle.rules.specs.Figures.{Hold}
use Rattle.rules.specs.TakeBack.{taken_back, take_back}
use Rattle.rules.specs.Preview.{preview, host_preview, undone}
use Rattle.rules.specs.PreviewFigures.{awaiting, one_point, three_measures, previewed, append_comes_first, previewed_bytes, undoings}
use Rattle.rules.proofs.Figures.{naturals, integers, lists, hold, rules}

pub previewed_hold : Hold previewed
unfolding rules preview awaiting one_point three_measures previewed
previewed_hold = hold (lists integers) previewed refl

pub append_comes_first_hold : Hold append_comes_first
unfolding rules preview awaiting append_comes_first
append_comes_first_hold = hold (lists integers) append_comes_first refl

pub previewed_bytes_hold : Hold previewed_bytes
unfolding rules host_preview awaiting previewed_bytes
previewed_bytes_hold = hold (lists naturals) previewed_bytes refl

pub undoings_hold : Hold undoings
unfolding rules taken_back take_back undone awaiting three_measures undoings
undoings_hold = hold (lists naturals) undoings refl
