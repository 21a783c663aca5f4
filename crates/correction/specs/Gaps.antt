-- A quarter's gap as the code holds it, and the book's.
use Rattle.rules.specs.Correction as book
use Rattle.correction.specs.declared.Gap.{Gap}

abbrev pub meant : Gap → book.Gap
meant gap = book.gap_of gap.amount.0 gap.balanced.0 gap.price.0
