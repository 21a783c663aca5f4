-- What the terms of the code stand for.
use Rattle.rules.specs.Numbers.{or_zero}
use Rattle.rules.specs.Terms as book
use Rattle.terms.specs.declared.Terms.{Terms}

-- the terms of the rule book
abbrev pub meaning : Terms → book.Terms
meaning t = record {
  technology = t.technology;
  variant = t.variant;
  nominal_power = or_zero t.nominal.0;
  direction = t.direction;
  execution = t.execution;
  first = t.first.0;
}
