use Rattle.std.proofs.Common.{◌≡◌, ◌+◌, ◌-◌, ◌≤◌, ◌<◌, ◌∙◌, ◌⊎◌, inl, inr, ℕ, suc, List, [], length, get_or, sym, ap, subst, arith, rules, Vec, Global}
use Rattle.std.proofs.lemmas.List.{get_or-map, length-map}
use Rattle.xa_log.specs.Reading.{bodies_of}
use Rattle.xa_manager.proofs.Survivors.{IsLeft, left_first, left_next, left_last}
use Rattle.xa_manager.proofs.restarting.count_last.Goals as goal
use Rattle.xa_manager.proofs.restarting.count_last.Goals.{then-records-test+else-first-gt0, else-records-test}

pub records-init : goal.records-init
records-init c = record {
  within = omega arith;
  left = λ earlier later both bytes. left_first (bodies_of c.args.bodies.now) earlier later (length c.args.bodies.now) c.args.bytes (sym (length-map c.args.bodies.now (λ (b : Vec ℕ Global). b.items))) both bytes;
}

pub records-preserved : goal.records-preserved
records-preserved c =
    let bodies = c.args.bodies.now in
    let items : Vec ℕ Global → List ℕ = λ b. b.items in
    let last : ℕ = c.records.first - 1 in
    let v = c.index-bodies-first.result in
    let at : c.records.first ≡ suc last = omega (arith, c.if-first-gt0.true) in
    let some : suc last ≤ length (bodies_of bodies) = omega (arith, c.records.invariant.within, length-map bodies items, at) in
    let less : last < length bodies = omega (arith, c.records.invariant.within, at) in
    let size : c.len.result ≡ length v.items = search rules in
    let item : get_or (bodies_of bodies) last [] ≡ v.items = get_or-map items bodies last v [] less ∙ ap items (sym c.index-bodies-first.is) in
    let is : 36 + c.len.result ≡ 36 + length (get_or (bodies_of bodies) last []) = omega (arith, size, ap length item) in
    let less_by : c.saturating_sub-left.result ≡ c.records.left - (36 + c.len.result) = search rules in
    record {
      within = omega (arith, c.records.invariant.within);
      left = λ earlier later both bytes.
          let now : IsLeft (bodies_of bodies) earlier later (suc last) c.records.left =
          subst (λ (k : ℕ). IsLeft (bodies_of bodies) earlier later k c.records.left) at (c.records.invariant.left earlier later both bytes) in
          subst (λ (k : ℕ). IsLeft (bodies_of bodies) earlier later last k) (sym less_by)
          (left_next (bodies_of bodies) earlier later last c.records.left (36 + c.len.result) both some (omega (arith, c.records-test.true)) is now);
    }

pub returns : goal.returns
returns c = λ earlier later both bytes.
    let bodies = c.args.bodies.now in
    let all = length-map bodies (λ (b : Vec ℕ Global). b.items) in
    let ended : (c.records.left ≡ 0) ⊎ (c.records.first ≡ 0) = elim c.records-test.branch [
      | then-records-test+else-first-gt0 w ↦ inr (omega (arith, w.if-first-gt0.false))
      | else-records-test w ↦ inl (omega (arith, w.records-test.false))
    ] in
    let rest : length (bodies_of bodies) - c.records.first ≡ length later =
    left_last (bodies_of bodies) earlier later c.records.first c.records.left both (omega (arith, all, c.records.invariant.within)) (c.records.invariant.left earlier later both bytes) ended in
    omega (arith, all, rest)
