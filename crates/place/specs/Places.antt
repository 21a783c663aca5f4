-- What a place of the code stands for.
use Rattle.std.specs.Prelude.{ℕ, ◌*◌, ◌≤◌, ◌<◌, List, ◌≡◌, pos, length}
use Rattle.rules.specs.Archive.{entry_at}
use Rattle.rules.specs.Numbers.{or_zero}
use Rattle.rules.specs.Settle as settle
use Rattle.terms.specs.Meanings.{meaning}
use Rattle.place.specs.declared.Place.{Place}

abbrev pub meant : List ℕ → Place → settle.Place
meant archive place = record {
  used = place.used;
  plant = entry_at archive place.plant;
  measure = entry_at archive place.measure;
  terms = meaning place.terms;
  links = place.links;
}

-- a place lies in the archive: its records are used ones, and Pn is in range
pub record Lies (archive : List ℕ) (place : Place) : Type 0 where
  pub room : 32 * place.used ≤ length archive
  pub few : place.used < 65536
  pub plant_used : place.plant < place.used
  pub measure_used : place.measure < place.used
  pub links_few : place.links ≤ 65535
  pub nominal_natural : place.terms.nominal.0 ≡ pos (or_zero place.terms.nominal.0)
  pub nominal_low : or_zero place.terms.nominal.0 ≤ 1000000000
