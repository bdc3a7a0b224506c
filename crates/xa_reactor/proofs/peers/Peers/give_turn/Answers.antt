use Rattle.std.proofs.Common.{◌≡◌, ◌∙◌, ℕ, List, ◌∷◌, refl, subst, sym}
use Rattle.xa_reactor.specs.Believed.Tending.{sessions_of}
use Rattle.xa_reactor.specs.Peers.{GoesOn, HadTurn}
use Rattle.xa_reactor.proofs.ForAll.{all_twice}
use Rattle.xa_reactor.proofs.peers.Peers.give_turn.Goals as goal

heads : (x y : ℕ) (xs ys : List ℕ) → x ∷ xs ≡ y ∷ ys → x ≡ y
heads x y xs ys is = cc

tails : (x y : ℕ) (xs ys : List ℕ) → x ∷ xs ≡ y ∷ ys → xs ≡ ys
tails x y xs ys is = cc

pub returns-clause-tends : goal.returns-clause-tends
returns-clause-tends g c =
    all_twice g.D.Reception.connected g.D.Door.called g.D.Door.left (sessions_of c.args.self.now.all) (sessions_of c.turn_in-step.new.all) (sessions_of c.go_on.new.self.all)
    c.args.door.now c.turn_in-step.new.door c.go_on.new.door c.turn_in-step.ensures.tends c.go_on.ensures.tends

pub returns-clause-turn : goal.returns-clause-turn
returns-clause-turn g c key rest is =
    let all = c.turn_in-step.new.all in
    let between = record c.args.self.now { all = all; queue = c.pop_front.new.self } in
    let popped = sym c.in-Some.ensures.items ∙ is in
    let first = heads c.in-Some.key key _ rest popped in
    record {
      between = between;
      step = c.turn_in-step.result;
      turned = subst (λ (k : ℕ). HadTurn c.args.self.now.all k c.turn_in-step.result all) first c.turn_in-step.ensures.turned;
      turns = tails c.in-Some.key key _ rest popped;
      orders = refl;
      goes = subst (λ (k : ℕ). GoesOn between k c.turn_in-step.result c.go_on.new.self) first c.go_on.ensures.goes;
    }
