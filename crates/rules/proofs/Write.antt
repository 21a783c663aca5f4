-- What append, taking back and undoing write: a record, the link to it in an earlier record, which becomes its number or zero, and U; nothing else.
use mathlib.Core.Path.{◌≡◌, refl, sym, ◌∙◌, ap}
use mathlib.Core.Bool.{Bool, true, false, cond}
use mathlib.Core.List.Memᴰ
use mathlib.Core.List.{List, Memᴰ}
use mathlib.Core.Logic.{◌⊎◌, inl, inr}
use Prim.Native.Nat.{ℕ, zero, suc, ◌+◌, ◌*◌, ◌/◌, ◌%◌, ◌^◌, ◌≤◌, ◌<◌}
use native.Mathlib.Omega.{arith}
use lib.Dec.{eqb, ltb}
use lib.ListN.{length}
use lib.Seq.{ext_get_or}
use borrow.Author.Tests.{eqb-true, eqb-false, ltb-true, ltb-false}
use Rattle.rules.specs.Archive.{byte_at, link_at, kind_of, record_at, is_text}
use Rattle.rules.specs.Links.{head_links, owned_at, links_at, link_places}
use Rattle.rules.specs.Encoding.{word, put}
use Rattle.rules.specs.Demands.{AreBytes}
use Rattle.rules.proofs.Bytes.{byte_of, record_length, put_length, put_below, put_in, put_above, put_link, put_word}
use Rattle.rules.proofs.Lists.{apart_two, apart_within}
use Rattle.rules.proofs.Unlinked.{Where, outside, inside, side_of, zero_bytes}
use Rattle.rules.proofs.Places.{SameStart, owned_same, links_same, places_apart, at_within, stands_in, in_stands, place_low, Stands}

-- the archive with a record, the link at a place and U written
abbrev pub written : List ℕ → ℕ → ℕ → List ℕ → ℕ → ℕ → List ℕ
written before number place new link count = put (put (put before (32 * number) new) place (word link)) 4 (word count)

-- three writes, one after another, leave that
pub is_written : (before : List ℕ) (number place : ℕ) (new : List ℕ) (link count : ℕ) {one two after : List ℕ} → one ≡ put before (32 * number) new
    → two ≡ put one place (word link) → after ≡ put two 4 (word count) → after ≡ written before number place new link count
is_written before number place new link count first second third =
    third ∙ ap (λ (l : List ℕ). put l 4 (word count)) (second ∙ ap (λ (l : List ℕ). put l place (word link)) first)

-- the later archive
pub record Wrote (before : List ℕ) (number place : ℕ) (new : List ℕ) (link count : ℕ) (after : List ℕ) : Type 0 where
  pub stands : Stands before number place
  pub long : length after ≡ length before
  -- nothing else changes: bytes, and links
  pub bytes : (i : ℕ) → (i < 4) ⊎ (8 ≤ i) → (i < place) ⊎ (place + 4 ≤ i) → (i < 32 * number) ⊎ (32 * number + 32 ≤ i) → byte_at after i ≡ byte_at before i
  pub links : (q : ℕ) → 8 ≤ q → (q + 4 ≤ place) ⊎ (place + 4 ≤ q) → q + 4 ≤ 32 * number → link_at after q ≡ link_at before q
  -- what is written
  pub filed : record_at after number ≡ new
  pub named : link_at after place ≡ link
  pub counted : link_at after 4 ≡ count
  pub count_bytes : (i : ℕ) → i < 4 → byte_at after (4 + i) ≡ byte_at (word count) i

place_stands : (archive : List ℕ) (number place : ℕ) → Stands archive number place → Memᴰ place (link_places archive number)
place_stands archive number place s = Memᴰ.cast s.is (stands_in archive number s.holder s.of s.below s.has)

stands_below : (archive : List ℕ) (number place : ℕ) → Stands archive number place → place + 4 ≤ 32 * number
stands_below archive number place s = (apart_within (32 * number) 0 place (link_places archive number) (places_apart archive number) (place_stands archive number place s)).1

stands_low : (archive : List ℕ) (number place : ℕ) → Stands archive number place → 8 ≤ place
stands_low archive number place s = rw s.is (place_low archive s.holder s.of s.has)

-- the three writes lie apart: U, the link behind it, the record behind both
module _ (before : List ℕ) (number place : ℕ) (new : List ℕ) (link count : ℕ) (size : length new ≡ 32) (low : 8 ≤ place) (high : place + 4 ≤ 32 * number)
    (room : 32 * number + 32 ≤ length before) where
  one : List ℕ
  one = put before (32 * number) new

  two : List ℕ
  two = put one place (word link)

  fits₁ : 32 * number + length new ≤ length before
  fits₁ = omega (arith, size, room)

  long₁ : length one ≡ length before
  unfolding one
  long₁ = put_length before (32 * number) new fits₁

  four : (n : ℕ) → length (word n) ≡ 4
  unfolding word
  four n = refl

  fits₂ : place + length (word link) ≤ length one
  fits₂ = omega (arith, long₁, four link, high, room)

  long₂ : length two ≡ length before
  unfolding two
  long₂ = put_length one place (word link) fits₂ ∙ long₁

  fits₃ : 4 + length (word count) ≤ length two
  fits₃ = omega (arith, long₂, four count, room)

  kept₁ : (i : ℕ) → (i < 32 * number) ⊎ (32 * number + 32 ≤ i) → byte_at one i ≡ byte_at before i
  unfolding one
  kept₁ i (inl h) = put_below before (32 * number) new fits₁ i h
  kept₁ i (inr h) = put_above before (32 * number) new fits₁ i (omega (arith, size))

  kept₂ : (i : ℕ) → (i < place) ⊎ (place + 4 ≤ i) → byte_at two i ≡ byte_at one i
  unfolding two
  kept₂ i (inl h) = put_below one place (word link) fits₂ i h
  kept₂ i (inr h) = put_above one place (word link) fits₂ i (omega (arith, four link))

  kept₃ : (i : ℕ) → (i < 4) ⊎ (8 ≤ i) → byte_at (written before number place new link count) i ≡ byte_at two i
  unfolding two one
  kept₃ i (inl h) = put_below two 4 (word count) fits₃ i h
  kept₃ i (inr h) = put_above two 4 (word count) fits₃ i (omega (arith, four count))

  pub written_long : length (written before number place new link count) ≡ length before
  unfolding two one
  written_long = put_length two 4 (word count) fits₃ ∙ long₂

  written_bytes : (i : ℕ) → (i < 4) ⊎ (8 ≤ i) → (i < place) ⊎ (place + 4 ≤ i) → (i < 32 * number) ⊎ (32 * number + 32 ≤ i)
      → byte_at (written before number place new link count) i ≡ byte_at before i
  written_bytes i h k j = kept₃ i h ∙ kept₂ i k ∙ kept₁ i j

  written_links : (q : ℕ) → 8 ≤ q → (q + 4 ≤ place) ⊎ (place + 4 ≤ q) → q + 4 ≤ 32 * number → link_at (written before number place new link count) q ≡ link_at before q
  unfolding two one
  written_links q h k j =
      put_link two 4 (word count) fits₃ q (inr (omega (arith, four count)))
      ∙ put_link one place (word link) fits₂ q (around k)
      ∙ put_link before (32 * number) new fits₁ q (inl j)
    where
      around : (q + 4 ≤ place) ⊎ (place + 4 ≤ q) → (q + 4 ≤ place) ⊎ (place + length (word link) ≤ q)
      around (inl h) = inl h
      around (inr h) = inr (omega (arith, four link))

  record_size : length (record_at (written before number place new link count) number) ≡ 32
  record_size = record_length (written before number place new link count) number (omega (arith, written_long, room))

  written_new : (i : ℕ) → i < 32 → byte_at (written before number place new link count) (32 * number + i) ≡ byte_at new i
  unfolding one
  written_new i h =
      kept₃ (32 * number + i) (inr (omega (arith, low, high)))
      ∙ kept₂ (32 * number + i) (inr (omega (arith, high)))
      ∙ put_in before (32 * number) new fits₁ i (omega (arith, size))

  written_filed : record_at (written before number place new link count) number ≡ new
  written_filed = ext_get_or 0 (record_at (written before number place new link count) number) new (record_size ∙ sym size)
      (λ i h. let k : i < 32 = omega (arith, record_size) in byte_of (written before number place new link count) number i k ∙ written_new i k)

  written_named : link < 2 ^ 32 → link_at (written before number place new link count) place ≡ link
  unfolding two one
  written_named small =
      put_link two 4 (word count) fits₃ place (inr (omega (arith, four count, low)))
      ∙ put_word one place link (omega (arith, long₁, high, room)) small

  written_counted : count < 2 ^ 32 → link_at (written before number place new link count) 4 ≡ count
  unfolding two one
  written_counted small = put_word two 4 count (omega (arith, long₂, room)) small

  written_count : (i : ℕ) → i < 4 → byte_at (written before number place new link count) (4 + i) ≡ byte_at (word count) i
  unfolding two one
  written_count i h = put_in two 4 (word count) fits₃ i (omega (arith, four count))

-- the same of a link that stands in an earlier record
pub wrote : (before : List ℕ) (number place : ℕ) (new : List ℕ) (link count : ℕ) → length new ≡ 32 → Stands before number place → 32 * number + 32 ≤ length before
    → link < 2 ^ 32 → count < 2 ^ 32 → Wrote before number place new link count (written before number place new link count)
wrote before number place new link count size stands room link-small count_small =
    let low = stands_low before number place stands in
    let high = stands_below before number place stands in
    record {
      stands = stands;
      long = written_long before number place new link count size low high room;
      bytes = written_bytes before number place new link count size low high room;
      links = written_links before number place new link count size low high room;
      filed = written_filed before number place new link count size low high room;
      named = written_named before number place new link count size low high room link-small;
      counted = written_counted before number place new link count size low high room count_small;
      count_bytes = written_count before number place new link count size low high room;
    }

-- ---- an append undone

-- a record, the link to it and U are written over, and written again: with the record's old bytes, 0 and U, every byte is as before
module _ (before : List ℕ) (number place : ℕ) (new : List ℕ) (link count : ℕ) (size : length new ≡ 32) (low : 8 ≤ place) (high : place + 4 ≤ 32 * number)
    (room : 32 * number + 32 ≤ length before) (was_zero : link_at before place ≡ 0) (was-count : (i : ℕ) → i < 4 → byte_at before (4 + i) ≡ byte_at (word number) i) where
  abbrev over : List ℕ
  over = written before number place new link count

  old_size : length (record_at before number) ≡ 32
  old_size = record_length before number room

  room_over : 32 * number + 32 ≤ length over
  room_over = rw (written_long before number place new link count size low high room) room

  abbrev again : List ℕ
  again = written over number place (record_at before number) 0 number

  same_byte : (i : ℕ) → byte_at again i ≡ byte_at before i
  same_byte i = go (side_of 4 4 i) (side_of place 4 i) (side_of (32 * number) 32 i)
    where
      go : Where 4 4 i → Where place 4 i → Where (32 * number) 32 i → byte_at again i ≡ byte_at before i
      go (inside k h e) p r = rw (← e) (written_count over number place (record_at before number) 0 number old_size low high room_over k h ∙ sym (was-count k h))
      go (outside c) (inside k h e) r =
          rw (← e)
          (zero_bytes again place k (written_named over number place (record_at before number) 0 number old_size low high room_over (omega arith)) h ∙ sym (zero_bytes before place k was_zero h))
      go (outside c) (outside p) (inside k h e) =
          rw (← e) (written_new over number place (record_at before number) 0 number old_size low high room_over k h ∙ byte_of before number k h)
      go (outside c) (outside p) (outside r) =
          written_bytes over number place (record_at before number) 0 number old_size low high room_over i c p r
          ∙ written_bytes before number place new link count size low high room i c p r

  pub written_again : written (written before number place new link count) number place (record_at before number) 0 number ≡ before
  written_again =
      ext_get_or 0 again before
      (written_long over number place (record_at before number) 0 number old_size low high room_over ∙ written_long before number place new link count size low high room)
      (λ i h. same_byte i)

-- the bytes of U, as every call writes them
pub count_written : (archive : List ℕ) (used : ℕ) → AreBytes archive → link_at archive 4 ≡ used → (i : ℕ) → i < 4 → byte_at archive (4 + i) ≡ byte_at (word used) i
unfolding link_at word
count_written archive used bytes e i h = at i h
  where
    b₀ : byte_at archive 4 < 2 ^ 8
    b₀ = bytes 4

    b₁ : byte_at archive 5 < 2 ^ 8
    b₁ = bytes 5

    b₂ : byte_at archive 6 < 2 ^ 8
    b₂ = bytes 6

    b₃ : byte_at archive 7 < 2 ^ 8
    b₃ = bytes 7

    digits : (x₀ x₁ x₂ x₃ n : ℕ) → x₀ < 2 ^ 8 → x₁ < 2 ^ 8 → x₂ < 2 ^ 8 → x₃ < 2 ^ 8 → x₀ + 2 ^ 8 * x₁ + 2 ^ 16 * x₂ + 2 ^ 24 * x₃ ≡ n
        → (x₀ ≡ n % 2 ^ 8) × (x₁ ≡ n / 2 ^ 8 % 2 ^ 8) × (x₂ ≡ n / 2 ^ 16 % 2 ^ 8) × (x₃ ≡ n / 2 ^ 24 % 2 ^ 8)
    digits x₀ x₁ x₂ x₃ n h₀ h₁ h₂ h₃ e = omega arith

    at : (i : ℕ) → i < 4 → byte_at archive (4 + i) ≡ byte_at (word used) i
    at zero h = (digits (byte_at archive 4) (byte_at archive 5) (byte_at archive 6) (byte_at archive 7) used b₀ b₁ b₂ b₃ e).0
    at (suc zero) h = (digits (byte_at archive 4) (byte_at archive 5) (byte_at archive 6) (byte_at archive 7) used b₀ b₁ b₂ b₃ e).1
    at (suc (suc zero)) h = (digits (byte_at archive 4) (byte_at archive 5) (byte_at archive 6) (byte_at archive 7) used b₀ b₁ b₂ b₃ e).2
    at (suc (suc (suc zero))) h = (digits (byte_at archive 4) (byte_at archive 5) (byte_at archive 6) (byte_at archive 7) used b₀ b₁ b₂ b₃ e).3
    at (suc (suc (suc (suc i)))) h = absurd (omega arith)

-- ---- what stays of the records before it

module _ {archive : List ℕ} {number place : ℕ} {new : List ℕ} {link count : ℕ} {after : List ℕ} (w : Wrote archive number place new link count after) where
  place_is : place ≡ 32 * w.stands.holder + w.stands.of.at
  place_is = w.stands.is

  pub place_in : Memᴰ place (link_places archive number)
  place_in = place_stands archive number place w.stands

  pub place_above : 8 ≤ place
  place_above = stands_low archive number place w.stands

  pub place_below : place + 4 ≤ 32 * number
  place_below = stands_below archive number place w.stands

  pub byte_kept : (n i : ℕ) → n < number → i < 32 → (n ≡ 0 → i < 4) → (n ≡ w.stands.holder → (i < w.stands.of.at) ⊎ (w.stands.of.at + 4 ≤ i))
      → byte_at (record_at after n) i ≡ byte_at (record_at archive n) i
  byte_kept n i h k z o =
      byte_of after n i k
      ∙ w.bytes (32 * n + i) (count_apart (eqb n 0) refl) (around (eqb n w.stands.holder) refl) (inl (omega arith))
      ∙ sym (byte_of archive n i k)
    where
      count_apart : (t : Bool) → eqb n 0 ≡ t → (32 * n + i < 4) ⊎ (8 ≤ 32 * n + i)
      count_apart true e = let d = eqb-true n 0 e in let j = z d in inl (omega arith)
      count_apart false e = inr (omega (arith, eqb-false n 0 e))

      within : (4 ≤ w.stands.of.at) × (w.stands.of.at + 4 ≤ 32)
      within = at_within archive w.stands.holder w.stands.of w.stands.has

      beside : (n ≡ w.stands.holder → ⊥) → (t : Bool) → ltb n w.stands.holder ≡ t → (32 * n + i < place) ⊎ (place + 4 ≤ 32 * n + i)
      beside d true e = let j = ltb-true n w.stands.holder e in inl (omega (arith, within, place_is))
      beside d false e = let j = ltb-false n w.stands.holder e in inr (omega (arith, within, place_is, d))

      inside : n ≡ w.stands.holder → (i < w.stands.of.at) ⊎ (w.stands.of.at + 4 ≤ i) → (32 * n + i < place) ⊎ (place + 4 ≤ 32 * n + i)
      inside d (inl j) = inl (omega (arith, place_is))
      inside d (inr j) = inr (omega (arith, place_is))

      around : (t : Bool) → eqb n w.stands.holder ≡ t → (32 * n + i < place) ⊎ (place + 4 ≤ 32 * n + i)
      around true e = inside (eqb-true n w.stands.holder e) (o (eqb-true n w.stands.holder e))
      around false e = beside (eqb-false n w.stands.holder e) (ltb n w.stands.holder) refl

  first_kept : (n i : ℕ) → n < number → i < 4 → byte_at (record_at after n) i ≡ byte_at (record_at archive n) i
  first_kept n i h k = byte_kept n i h (omega arith) (λ z. k) (λ z. inl (omega (arith, at_within archive w.stands.holder w.stands.of w.stands.has)))

  pub start_kept : (n : ℕ) → n < number → SameStart (record_at after n) (record_at archive n)
  start_kept n h = record { same = λ i k. first_kept n i h (omega arith) }

  pub text_kept : is_text (record_at archive 0) ≡ true → is_text (record_at after 0) ≡ true
  text_kept t = texts (record_at after 0) (record_at archive 0) (λ i. first_kept 0 i (omega (arith, w.stands.below))) t
    where
      texts : (r s : List ℕ) → ((i : ℕ) → i < 4 → byte_at r i ≡ byte_at s i) → is_text s ≡ true → is_text r ≡ true
      texts r s h t = rw (h 0 (omega arith), h 1 (omega arith), h 2 (omega arith), h 3 (omega arith)) t

  pub kind_kept : (n : ℕ) → n < number → kind_of (record_at after n) ≡ kind_of (record_at archive n)
  kind_kept n h = (start_kept n h).same 0 (omega arith)

  pub links_kept : (n : ℕ) → n < number → links_at after n ≡ links_at archive n
  unfolding links_at
  links_kept n h = ap (λ ls. cond (eqb n 0) head_links ls) (links_same (record_at after n) (record_at archive n) (start_kept n h))

  pub owned_kept : (n : ℕ) → n < number → owned_at after n ≡ owned_at archive n
  unfolding owned_at
  owned_kept n h = ap (λ ls. cond (eqb n 0) head_links ls) (owned_same (record_at after n) (record_at archive n) (start_kept n h))

  pub places_kept : (n : ℕ) → n ≤ number → link_places after n ≡ link_places archive n
  unfolding link_places
  places_kept zero h = refl
  places_kept (suc n) h = rw (places_kept n (omega arith), links_kept n (omega arith))

  pub link_kept : (q : ℕ) → Memᴰ q (link_places archive number) → (q ≡ place → ⊥) → link_at after q ≡ link_at archive q
  link_kept q m d =
      let s = in_stands archive number q m in
      let p = place_low archive s.holder s.of s.has in
      let i = apart_within (32 * number) 0 q (link_places archive number) (places_apart archive number) m in
      w.links q (rw s.is p)
      (apart_two (32 * number) 0 q place (link_places archive number) (places_apart archive number) m place_in d) i.1
