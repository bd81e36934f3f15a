-- Document 01, "Reading": "skip spaces".
use Rattle.std.specs.Prelude.{ℕ, ◌+◌, List, [], ◌∷◌}
use Rattle.float.specs.Pick.{pick}
use Rattle.scan.specs.Bytes.{is_space}

-- the position of the first byte that is no space, or of the end; the first byte of the list stands at i
unfoldable pub skip : List ℕ → ℕ → ℕ
skip [] i = i
skip (b ∷ bs) i = let r = skip bs (i + 1) in pick (is_space b) r i
