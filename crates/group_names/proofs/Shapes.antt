-- Every family is one shape: node 0 is joined to node b, each other node to the next; the edge that starts at node s has the number l, any other 3. The size, b, s
-- and l tell the name. No limit of nodes stands here. Assumes nothing.
use mathlib.Core.Bool.{Bool, true, false, ◌&&◌, ◌||◌, or-false}
use mathlib.Core.Path.{◌≡◌, refl, sym, ap, ◌∙◌}
use Prim.Native.Nat.{ℕ, zero, suc, ◌+◌, ◌≤◌, ◌<◌}
use native.Mathlib.Decide.{ℕ_discrete}
use native.Mathlib.Omega.{arith}
use borrow.Author.Tests.{eq-eqb, ne_eqb, eqb-true, leb-true}
use lib.Dec.{eqb}
use Rattle.float.specs.Pick.{pick}
use Rattle.cd.proofs.Decided.{and_false}
use Rattle.cox.specs.Families.{is_entry, chain, made}
use Rattle.group_names.specs.Names.{is_name, rank, entry}
use Rattle.group_names.specs.declared.Name.{Name}
use Rattle.group_names.specs.declared.Name.TheVariants.{A, B, D, E6, E7, E8, F4, H3, H4, I2}

-- ---- a shape

-- the later node that node i is joined to
unfoldable pub next : ℕ → ℕ → ℕ
next b zero = b
next b (suc i) = suc (suc i)

-- the number between i < j
unfoldable pub tree : ℕ → ℕ → ℕ → ℕ → ℕ → ℕ
unfolding next
tree b s l i j = pick (eqb j (next b i)) (pick (eqb i s) l 3) 2

-- which shapes of n nodes are names': chains that begin with l, the two that branch, and F4
pub data IsShape (n b s l : ℕ) : Type 0 where
  chained : 1 ≤ n → b ≡ 1 → s ≡ 0 → 3 ≤ l → (n ≡ 1 → l ≡ 3) → IsShape n b s l
  forked : 4 ≤ n → b ≡ 2 → s ≡ 0 → l ≡ 3 → IsShape n b s l
  branched : 6 ≤ n → b ≡ 3 → s ≡ 0 → l ≡ 3 → IsShape n b s l
  centred : n ≡ 4 → b ≡ 1 → s ≡ 1 → l ≡ 4 → IsShape n b s l

-- ---- the shape of a name

unfoldable pub branch : Name → ℕ
branch (A n) = 1
branch (B n) = 1
branch (D n) = 2
branch E6 = 3
branch E7 = 3
branch E8 = 3
branch F4 = 1
branch H3 = 1
branch H4 = 1
branch (I2 p) = 1

unfoldable pub start : Name → ℕ
start (A n) = 0
start (B n) = 0
start (D n) = 0
start E6 = 0
start E7 = 0
start E8 = 0
start F4 = 1
start H3 = 0
start H4 = 0
start (I2 p) = 0

unfoldable pub label : Name → ℕ
label (A n) = 3
label (B n) = 4
label (D n) = 3
label E6 = 3
label E7 = 3
label E8 = 3
label F4 = 4
label H3 = 5
label H4 = 5
label (I2 p) = p

pub name_shape : (x : Name) → is_name x ≡ true → IsShape (rank x) (branch x) (start x) (label x)
unfolding is_name rank branch start label
name_shape (A n) h = chained (omega (arith, leb-true _ n h)) refl refl (omega arith) (λ e. refl)
name_shape (B n) h = chained (omega (arith, leb-true _ n h)) refl refl (omega arith) (λ e. absurd (omega (arith, leb-true _ n h)))
name_shape (D n) h = forked (omega (arith, leb-true _ n h)) refl refl refl
name_shape E6 h = branched (omega arith) refl refl refl
name_shape E7 h = branched (omega arith) refl refl refl
name_shape E8 h = branched (omega arith) refl refl refl
name_shape F4 h = centred refl refl refl refl
name_shape H3 h = chained (omega arith) refl refl (omega arith) (λ e. absurd (omega arith))
name_shape H4 h = chained (omega arith) refl refl (omega arith) (λ e. absurd (omega arith))
name_shape (I2 p) h = chained (omega arith) refl refl (omega (arith, leb-true _ p h)) (λ e. absurd (omega arith))

-- ---- the shape tells the name

decode : ℕ → ℕ → ℕ → ℕ → Name
decode n b s l =
    pick (eqb b 2) (D n)
    (pick (eqb b 3) (pick (eqb n 6) E6 (pick (eqb n 7) E7 E8))
    (pick (eqb s 1) F4
    (pick (eqb l 3) (A n)
    (pick (eqb l 4) (B n)
    (pick (eqb n 2) (I2 l) (pick (eqb n 3) H3 H4))))))

decoded : (x : Name) → is_name x ≡ true → decode (rank x) (branch x) (start x) (label x) ≡ x
unfolding is_name rank branch start label decode
decoded (A n) h = refl
decoded (B n) h = refl
decoded (D n) h = refl
decoded E6 h = refl
decoded E7 h = refl
decoded E8 h = refl
decoded F4 h = refl
decoded H3 h = refl
decoded H4 h = refl
decoded (I2 p) h = rw (ne_eqb p 3 (λ e. omega (arith, leb-true _ p h)), ne_eqb p 4 (λ e. omega (arith, leb-true _ p h)))

pub same_name : {x y : Name} → is_name x ≡ true → is_name y ≡ true → rank x ≡ rank y → branch x ≡ branch y → start x ≡ start y → label x ≡ label y → x ≡ y
same_name {x} {y} hx hy n b s l = sym (decoded x hx) ∙ (λ i. decode (n i) (b i) (s i) (l i)) ∙ decoded y hy

-- ---- the numbers of a name are those of its shape

chain_rising : (i j : ℕ) → i < j → chain i j ≡ pick (eqb j (i + 1)) 3 2
unfolding chain
chain_rising i j h = go (ℕ_discrete j (i + 1))
  where
    go : Dec (j ≡ i + 1) → ◌≡◌ {A = ℕ} (pick (eqb i j) 1 (pick (eqb (i + 1) j || eqb (j + 1) i) 3 2)) (pick (eqb j (i + 1)) 3 2)
    go (yes e) = rw (ne_eqb i j (λ e. omega arith), eq-eqb (i + 1) j (sym e), eq-eqb j (i + 1) e)
    go (no n) = rw (ne_eqb i j (λ e. omega arith), ne_eqb (i + 1) j (λ e. n (sym e)), ne_eqb (j + 1) i (λ e. omega arith), ne_eqb j (i + 1) n)

made_rising : (a b v : ℕ) (f : ℕ → ℕ → ℕ) (i j : ℕ) → a < b → i < j → made a b v f i j ≡ pick (eqb i a && eqb j b) v (f i j)
unfolding made is_entry
made_rising a b v f i j h k =
    rw (and_false (eqb i b) (eqb j a) (λ p q. omega (arith, eqb-true i b p, eqb-true j a q)), or-false)

twice : (t : Bool) (x y z : ℕ) → pick t x (pick t y z) ≡ pick t x z
twice true x y z = refl
twice false x y z = refl

next_one : (i : ℕ) → next 1 i ≡ i + 1
unfolding next
next_one zero = refl
next_one (suc i) = omega arith

-- a chain whose edge from a is made v
led : (a v i j : ℕ) → i < j → made a (a + 1) v chain i j ≡ tree 1 a v i j
unfolding tree
led a v i j h =
    made_rising a (a + 1) v chain i j (omega arith) h ∙ rw (chain_rising i j h, next_one i) (go (ℕ_discrete i a))
  where
    go : Dec (i ≡ a) → pick (eqb i a && eqb j (a + 1)) v (pick (eqb j (i + 1)) 3 2) ≡ pick (eqb j (i + 1)) (pick (eqb i a) v 3) 2
    go (yes e) = rw (e, eq-eqb a a refl) (twice (eqb j (a + 1)) v 3 2)
    go (no n) = rw (ne_eqb i a n)

-- a chain whose first edge is made 2, its node 0 joined to node b instead
hung_at : (b i j : ℕ) → 1 < b → i < j → made 0 b 3 (made 0 1 2 chain) i j ≡ tree b 0 3 i j
unfolding tree next
hung_at b zero j h k = made_rising 0 b 3 _ 0 j (omega arith) k ∙ rw (made_rising 0 1 2 chain 0 j (omega arith) k, chain_rising 0 j k) (first (eqb j b) (eqb j 1))
  where
    first : (t u : Bool) → ◌≡◌ {A = ℕ} (pick (true && t) 3 (pick (true && u) 2 (pick u 3 2))) (pick t (pick true 3 3) 2)
    first true u = refl
    first false true = refl
    first false false = refl
hung_at b (suc i) j h k =
    let e : suc i + 1 ≡ suc (suc i) = omega arith in
    let n : eqb (suc i) 0 ≡ false = ne_eqb (suc i) 0 (λ z. omega arith) in
    made_rising 0 b 3 _ (suc i) j (omega arith) k ∙ rw n (made_rising 0 1 2 chain (suc i) j (omega arith) k ∙ rw n (chain_rising (suc i) j k ∙ ap {B = ℕ} (λ z. pick (eqb j z) 3 2) e))

plain : (i j : ℕ) → pick (eqb j (i + 1)) 3 2 ≡ tree 1 0 3 i j
unfolding tree
plain i j = rw (next_one i) (threes (eqb j (i + 1)) (eqb i 0))
  where
    threes : (t u : Bool) → ◌≡◌ {A = ℕ} (pick t 3 2) (pick t (pick u 3 3) 2)
    threes true true = refl
    threes true false = refl
    threes false u = refl

pub entry_tree : (x : Name) (i j : ℕ) → i < j → entry x i j ≡ tree (branch x) (start x) (label x) i j
unfolding entry branch start label
entry_tree (A n) i j h = chain_rising i j h ∙ plain i j
entry_tree (B n) i j h = led 0 4 i j h
entry_tree (D n) i j h = hung_at 2 i j (omega arith) h
entry_tree E6 i j h = hung_at 3 i j (omega arith) h
entry_tree E7 i j h = hung_at 3 i j (omega arith) h
entry_tree E8 i j h = hung_at 3 i j (omega arith) h
entry_tree F4 i j h = led 1 4 i j h
entry_tree H3 i j h = led 0 5 i j h
entry_tree H4 i j h = led 0 5 i j h
entry_tree (I2 p) i j h = led 0 p i j h
