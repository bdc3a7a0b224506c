use Rattle.std.proofs.Common.{◌≡◌, ◌∙◌, List, ℕ, ap, subst, length, sym, arith}
use Rattle.std.proofs.lemmas.List.{take_at}
use Rattle.xa_log.specs.Looking.{IsFront, IsHead}
use Rattle.xa_log.proofs.Choosing.{head_generation, no_generation}
use Rattle.xa_log.proofs.unfit.generation_of.Goals as goal
use Rattle.xa_log.proofs.unfit.generation_of.Goals.{In_ok-head}

is_head : (g : _) (c : goal.In_ok-head g) → g.D.Disk.honest → c.args.len ≡ length (g.D.Disk.seen c.args.disk.now)
    → IsHead (g.D.Disk.seen c.args.disk.now) c.head_of.new.window c.in_ok-head.field-0
is_head g c h len =
    let file : List ℕ = g.D.Disk.seen c.args.disk.now in
    let long : length c.front_of.new.window ≡ c.in_ok-window.window.len = omega arith in
    let same : c.front_of.new.window ≡ c.deref_mut-2.result.now = sym (c.deref_mut-2.ensures.value ∙ take_at c.front_of.new.window _ c.in_ok-window.window.len long) in
    let stays : g.D.Disk.seen c.front_of.new.disk ≡ file = c.in_ok-front.ensures.same h in
    let front = subst (λ w. IsFront file w c.in_ok-front.front) same (c.in_ok-front.ensures.front h len) in
    subst (λ (f : List ℕ). IsHead f c.head_of.new.window c.in_ok-head.field-0) stays
    (c.in_ok-head.ensures.head h (len ∙ ap (λ (f : List ℕ). length f) (sym stays)) (subst (λ (f : List ℕ). IsFront f c.deref_mut-2.result.now c.in_ok-front.front) (sym stays) front))

pub returns-in-Some-clause-value : goal.returns-in-Some-clause-value
returns-in-Some-clause-value g c h len =
    let file : List ℕ = g.D.Disk.seen c.args.disk.now in
    let head = subst (λ o. IsHead file c.head_of.new.window o) c.in-Some.is (is_head g (goal.at.returns-in-Some-clause-value g c).In_ok-head h len) in
    head_generation file c.head_of.new.window c.in-Some.head _ head c.number_in_first.ensures

pub returns-clause-value : goal.returns-clause-value
returns-clause-value g c h len =
    let file : List ℕ = g.D.Disk.seen c.args.disk.now in
    no_generation file c.head_of.new.window (subst (λ o. IsHead file c.head_of.new.window o) c.in-None.is (is_head g (goal.at.returns-clause-value g c).In_ok-head h len))
