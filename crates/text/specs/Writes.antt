-- Bytes written from a place on, and the place after them.
use Rattle.std.specs.Prelude.{ℕ, ◌+◌, ◌≤◌, ◌≡◌, List, length}
use Rattle.rules.specs.Encoding.{put}
use Rattle.text.specs.declared.Text.{Text}

-- `later` is `before` with these bytes from `at` on, every other byte unchanged; they end before `end`
pub record Writes (before : List ℕ) (at : ℕ) (bytes later : List ℕ) (end : ℕ) : Type 0 where
  pub is : later ≡ put before at bytes
  pub ends : end ≡ at + length bytes

-- so many bytes more have room
abbrev pub HasRoom : Text → ℕ → Type 0
HasRoom t n = t.end + n ≤ length t.out.now

-- a text goes on with these bytes, at most so many, in the same lent bytes
pub record Appends (t : Text) (bytes : List ℕ) (most : ℕ) (t' : Text) : Type 0 where
  pub same : t'.out.ghost_name ≡ t.out.ghost_name
  pub writes : Writes t.out.now t.end bytes t'.out.now t'.end
  pub within : t'.end ≤ t.end + most
  pub room : length t'.out.now ≡ length t.out.now
