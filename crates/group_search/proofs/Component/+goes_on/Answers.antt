-- The cycle of calls {goes_on} meets its contract; Invariants.antt has the argument.
use Prim.Native.Nat.{◌<◌}
use native.Mathlib.Omega.{arith}
use Rattle.cd.proofs.Decided.{refutes}
use Rattle.group_search.proofs.Placing.{ready_deeper, tried_label, tried_unsuited, tried_deeper}
use Rattle.group_search.proofs.Component.+goes_on.Goals as goal
use Rattle.group_search.proofs.Component.+goes_on.Goals.{then-self-v+then-suits+else-goes_on, else-self-v, else-self-v-via-then-self-v+else-suits, else-self-v-via-else-self-v}

pub goes_on-requires : goal.goes_on-requires
goes_on-requires t c =
    let r = c.requires in
    let h : c.args.k < c.args.self.now.size = omega (arith, r.depth) in
    (omega arith, ready_deeper r h c.loop-v-test.true c.if-self-v.true ((c.suits.ensures _ c.wanted-wanted.ensures).only_when c.if-suits.true))

pub loop-v-preserved : goal.loop-v-preserved
loop-v-preserved t c =
    let r = c.requires in
    let i = c.loop-v.invariant in
    let h : c.args.k < c.args.self.now.size = omega (arith, r.depth) in
    elim c.if-self-v.branch [
      | then-self-v+then-suits+else-goes_on w ↦ tried_deeper r h i (refutes w.goes_on.ensures w.if-goes_on.false)
      | else-self-v w ↦
          elim w.else-self-v.branch [
            | else-self-v-via-then-self-v+else-suits v ↦ tried_unsuited r h i (refutes (v.suits.ensures _ c.wanted-wanted.ensures) v.if-suits.false)
            | else-self-v-via-else-self-v v ↦ tried_label r h i v.if-self-v.false
          ]
    ]
