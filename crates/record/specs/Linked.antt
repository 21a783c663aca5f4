-- What a link of the code stands for: the book's link.
use Rattle.std.specs.Prelude.{List, map}
use Rattle.rules.specs.Links as book
use Rattle.record.specs.declared.Link.{Link}

abbrev pub listed : List Link → List book.Link
listed links = map (λ l. book.link l.0 l.1) links
