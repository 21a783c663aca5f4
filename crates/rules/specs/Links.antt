-- The links of a record, decided on its bytes, and the links of the whole archive (01, 'The archive').
use Rattle.std.specs.Prelude.{ℕ, zero, suc, ◌+◌, ◌*◌, Bool, cond, ◌&&◌, ◌||◌, List, [], ◌∷◌, ◌++◌, map, eqb, leb}
use Rattle.rules.specs.Numbers.{keep}
use Rattle.rules.specs.Archive.{link_at, kind_of, record_at, plant_kind, point_kind, measure_kind, before_kind, quarter_kind}

-- a link of a record: the byte where it starts, and the kind of record that it leads to
pub record Link : Type 0 where
  pub at : ℕ
  pub to : ℕ

abbrev pub link : ℕ → ℕ → Link
link at to = record { at = at; to = to }

-- the known kinds, 1-5
abbrev pub is_kind : ℕ → Bool
is_kind k = leb plant_kind k && leb k quarter_kind

abbrev pub head_links : List Link
head_links = link 8 plant_kind ∷ []

-- the links to the first record of each chain that a record owns: a plant's points and measures, a measure's before-quarters and quarters
unfoldable pub owned_by : List ℕ → List Link
owned_by r =
    cond (eqb (kind_of r) plant_kind) (link 8 point_kind ∷ link 12 measure_kind ∷ [])
    (cond (eqb (kind_of r) measure_kind) (link 8 before_kind ∷ link 12 quarter_kind ∷ []) [])

-- all links of a record in byte order: the next record of its chain, then those; an unknown kind has none
unfoldable pub links_of : List ℕ → List Link
links_of r = cond (is_kind (kind_of r)) (link 4 (kind_of r) ∷ owned_by r) []

-- byte i of a record is of a link: 4-7, and 8-15 in kinds 1 and 3
unfoldable pub is_link_byte : List ℕ → ℕ → Bool
is_link_byte r i = (leb 4 i && leb i 7) || ((eqb (kind_of r) plant_kind || eqb (kind_of r) measure_kind) && (leb 8 i && leb i 15))

-- links by number; record 0 is the head
unfoldable pub owned_at : List ℕ → ℕ → List Link
owned_at archive n = cond (eqb n 0) head_links (owned_by (record_at archive n))

unfoldable pub links_at : List ℕ → ℕ → List Link
links_at archive n = cond (eqb n 0) head_links (links_of (record_at archive n))

-- where a link of record n stands in the archive
abbrev pub stands_at : ℕ → Link → ℕ
stands_at n l = 32 * n + l.at

-- the places of all links of the first so many records, in byte order
unfoldable pub link_places : List ℕ → ℕ → List ℕ
link_places archive zero = []
link_places archive (suc n) = link_places archive n ++ map (stands_at n) (links_at archive n)

-- the places of the links of the head and of used records of known kind that name record n, by their value alone (01, audit; 02, 2)
unfoldable pub namers : List ℕ → ℕ → ℕ → List ℕ
namers archive used n = keep (λ place. eqb (link_at archive place) n) (link_places archive used)
