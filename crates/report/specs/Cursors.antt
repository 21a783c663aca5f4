-- The program's output, written part by part: the lines still to come after each part.
use Rattle.std.specs.Prelude.{ℕ, suc, ◌+◌, ◌*◌, ◌-◌, ◌≤◌, ◌<◌, ◌≡◌, Bool, true, false, cond, ◌⊎◌, List, [], ◌++◌, ltb, ℤ, length, take, drop}
use Rattle.rules.specs.Outcome.{given}
use Rattle.rules.specs.Numbers.{map_from}
use Rattle.rules.specs.Archive.{used_of}
use Rattle.rules.specs.Output.{Line, quarter_line, Step, next_measure, next_plant, stop, lines_from, head_refused, output, text_of_all}
use Rattle.text.specs.Writes.{Writes}
use Rattle.report.specs.declared.Cursor.{Cursor}

-- the quarters of the measure last settled that aren't written yet, then the measures from places p and k on, unless the report has ended
unfoldable pub rest : List ℕ → Cursor → List ℤ → List Line
rest archive c list = map_from quarter_line (c.place + 1) (drop c.place (take c.count list)) ++ cond c.done [] (lines_from c.used archive c.p c.k)

-- nothing is left to write
abbrev pub finished : Cursor → Bool
finished c = cond (ltb c.place c.count) false c.done

-- after the first line of a measure, which has so many quarters, written up to `end`
abbrev pub settled_at : Cursor → ℕ → ℕ → Cursor
settled_at c count end = record { used = c.used; p = c.p; k = c.k + 1; place = 0; count = count; done = c.done; end = end }

-- the same with nothing written
abbrev pub start_at : Cursor → Cursor
start_at c = record { used = c.used; p = c.p; k = c.k; place = c.place; count = c.count; done = c.done; end = 0 }

-- after the next quarter
abbrev pub quarter_at : Cursor → ℕ → Cursor
quarter_at c end = record { used = c.used; p = c.p; k = c.k; place = c.place + 1; count = c.count; done = c.done; end = end }

-- where a step of 01's order leads after a refusal
unfoldable pub moved : Step → Cursor → ℕ → Cursor
moved next_measure c end = settled_at c 0 end
moved next_plant c end = record { used = c.used; p = c.p + 1; k = 1; place = 0; count = 0; done = c.done; end = end }
moved stop c end = record { used = c.used; p = c.p; k = c.k; place = 0; count = 0; done = true; end = end }

-- the places that steps can lead to fall with every step
unfoldable pub steps : Cursor → ℕ
steps c = cond c.done 0 (suc ((c.used + 1 - c.p) * (c.used + 2) + (c.used + 1 - c.k)))

-- a cursor over an archive and a list of amounts
pub record Fits (archive : List ℕ) (c : Cursor) (list : List ℤ) : Type 0 where
  pub head : c.done ≡ false → used_of archive ≡ given c.used
  pub low : c.used < 65536
  pub size : length list ≡ 2976
  pub placed : c.place ≤ c.count
  pub counted : c.count ≤ 2976
  pub plant_low : c.p ≤ c.used
  pub measure_low : c.k ≤ c.used

-- a quarter is next, with its amount in the list and room for its line
pub record QuarterDue (c : Cursor) (list : List ℤ) (out : List ℕ) : Type 0 where
  pub left : c.place < c.count
  pub listed : c.count ≤ length list
  pub room : c.end + 108 ≤ length out

-- before the first measure, and after a refused head
abbrev pub first_at : ℕ → Cursor
first_at used = record { used = used; p = 1; k = 1; place = 0; count = 0; done = false; end = 0 }

abbrev pub ended_at : ℕ → Cursor
ended_at end = record { used = 0; p = 0; k = 0; place = 0; count = 0; done = true; end = end }

-- the report has ended with the line of a refused head
pub record Ends (out out' : List ℕ) (c : Cursor) : Type 0 where
  pub is : c ≡ ended_at c.end
  pub line : Writes out 0 (text_of_all head_refused) out' c.end
  pub within : c.end ≤ 108

-- the whole output of an input is what is written at first and what is left, whatever stands in the list
pub record Begins (input out : List ℕ) (c : Cursor) : Type 0 where
  pub text : (list : List ℤ) → take c.end out ++ text_of_all (rest input c list) ≡ text_of_all (output input)
  pub fits : (list : List ℤ) → length list ≡ 2976 → Fits input c list
  pub within : c.end ≤ 108

-- from one cursor to the next: what is written and what is left are together what they were, and either is nearer to its end
pub record Advances (archive : List ℕ) (c : Cursor) (list : List ℤ) (out : List ℕ) (c' : Cursor) (list' : List ℤ) (out' : List ℕ) : Type 0 where
  pub text : take c'.end out' ++ text_of_all (rest archive c' list') ≡ take c.end out ++ text_of_all (rest archive c list)
  pub fits : Fits archive c' list'
  pub within : c'.end ≤ c.end + 108
  pub onward : c.end + steps c' < c'.end + steps c

-- since a cursor: what is written from the first byte on and what is left are together what was left
pub record Continues (archive : List ℕ) (c : Cursor) (list : List ℤ) (c' : Cursor) (list' : List ℤ) (out' : List ℕ) : Type 0 where
  pub text : take c'.end out' ++ text_of_all (rest archive c' list') ≡ text_of_all (rest archive c list)
  pub fits : Fits archive c' list'
  pub within : c'.end ≤ length out'

-- the same once no line has room or none is left
pub record Fills (archive : List ℕ) (c : Cursor) (list : List ℤ) (c' : Cursor) (list' : List ℤ) (out' : List ℕ) : Type 0 where
  pub continues : Continues archive c list c' list' out'
  pub onward : (finished c' ≡ true) ⊎ (0 < c'.end)

-- what is left to write, in bytes, and one more until the end is seen
unfoldable pub bytes_left : List ℕ → Cursor → List ℤ → ℕ
bytes_left archive c list = length (text_of_all (rest archive c list)) + cond (finished c) 0 1
