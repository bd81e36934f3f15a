-- Document 02, ticket K12: "Bytes damaged inside one place must never make its neighbours unreadable". What the theorem about it speaks of; no promise leans on this
-- file.
use Rattle.std.specs.Prelude.{List, ◌≡◌, ℕ, suc, ◌*◌, length, take, drop}

-- the two files differ only "inside one place", place i of w bytes, or inside the tail where no whole place i is
pub record DamagedAt (w i : ℕ) (file damaged : List ℕ) : Type 0 where
  pub same_length : length damaged ≡ length file
  pub before : take (w * i) damaged ≡ take (w * i) file
  pub behind : drop (w * suc i) damaged ≡ drop (w * suc i) file
