-- Document 02, ticket K11, of the calls for C: what an article shows of a text is taken from the numbers that `lexicon_read` and `lexicon_names` tell and show.
use Rattle.std.specs.Prelude.{List, [], ◌∷◌, ◌≡◌, ℕ, ◌+◌, ◌*◌, ltb, get_or}
use Rattle.cd.specs.Diagrams.{limit, place_of}
use Rattle.filing.specs.Counts.{pair_count}
use Rattle.lexicon_articles.specs.Articles.{SameMultiset}

-- what a call returned, told and showed: a number, the four numbers of the answer, the lent slice afterwards
pub record Called : Type 0 where
  pub returned : ℕ
  pub answer : List ℕ
  pub out : List ℕ

-- "stored edges between different nodes", by `lexicon_read`: the pairs of different nodes that have a rank
abbrev pub edges_shown : Called → ℕ
edges_shown c = pair_count (λ i j. ltb 0 (get_or c.out (2 * limit + 3 * place_of i j) 0)) (get_or c.answer 1 0)

-- the name's letter and number, and the order, at a place, by `lexicon_names`
abbrev pub name_shown : Called → ℕ → List ℕ
name_shown c i = get_or c.out (4 * i + 1) 0 ∷ get_or c.out (4 * i + 2) 0 ∷ get_or c.out (4 * i + 3) 0 ∷ []

-- "the same names and orders as a multiset, unless both are refused with 21, whose nodes may differ"
pub data SameNamesForC (r g : Called) : Type 0 where
  named : r.returned ≡ 0 → g.returned ≡ 0 → SameMultiset (get_or r.answer 1 0) (name_shown r) (get_or g.answer 1 0) (name_shown g) → SameNamesForC r g
  nameless : r.returned ≡ 21 → g.returned ≡ 21 → SameNamesForC r g

-- of calls of `lexicon_read` and `lexicon_names` with one text, and of such with another
pub record SameArticleForC (p r q g : Called) : Type 0 where
  pub read : (p.returned ≡ 0) × (q.returned ≡ 0)
  pub mark : get_or p.answer 3 0 ≡ get_or q.answer 3 0
  pub edges : edges_shown p ≡ edges_shown q
  pub names : SameNamesForC r g
