use Rattle.std.proofs.Common.{◌≡◌, ◌∙◌, ◌+◌, ◌++◌, ◌-◌, ℕ, List, [], ◌∷◌, ap, append-nil, append_assoc, arith, length, refl, subst, sym}
use Rattle.std.specs.Prelude.{All}
use Rattle.std.specs.Vec.Iter.{drain_items}
use Rattle.std.specs.Vec.{vec_len}
use Rattle.std.proofs.lemmas.List.Elements.{All-head, All-same, All-take, All-tail}
use Rattle.std.proofs.lemmas.List.{take_all}
use Rattle.xa_reactor.specs.Asking.{IsAnswered}
use Rattle.xa_reactor.specs.declared.ask.Ask.{Ask}
use Rattle.xa_reactor.specs.declared.peer.Step.{Step}
use Rattle.xa_reactor.proofs.together.send_all.Goals as goal

-- one more after those that came later
one_later : {A : Type 0} (xs ys zs : List A) (one : A) → zs ≡ ys ++ one ∷ [] → (later : List A) → ys ≡ xs ++ later
    → (more : List A) × (zs ≡ xs ++ more)
one_later xs ys zs one is later was = (later ++ one ∷ [], is ∙ (ap (λ l. l ++ one ∷ []) was ∙ append_assoc xs later (one ∷ [])))

pub loop-ask-init : goal.loop-ask-init
loop-ask-init g c =
    let same = c.into_iter-ask-iterator.ensures.into_iter_gives in
    record {
      answered = subst (λ d. All IsAnswered (drain_items d)) (sym same)
          (All-same IsAnswered _ _ c.drain-ask-items.ensures.rest (All-take IsAnswered (vec_len c.args.asks.now - 0) c.args.asks.now.items c.requires.answered));
      count = subst (λ d. vec_len c.args.over.now + length (drain_items d) ≡ vec_len c.args.over.now + vec_len c.args.asks.now) (sym same)
          (omega (arith, ap (λ (xs : List Ask). length xs) (c.drain-ask-items.ensures.rest ∙ take_all (vec_len c.args.asks.now - 0) c.args.asks.now.items (omega arith))));
      capacity = refl;
      same = refl;
      over = ([], sym (append-nil c.args.over.now.items));
      turns = refl;
    }

pub close_turn-step-requires : goal.close_turn-step-requires
close_turn-step-requires g c =
    All-head IsAnswered c.in-Some.ask _ (All-same IsAnswered _ _ (sym c.in-Some.ensures.steps.0) c.loop-ask.invariant.answered)

pub push_reserved-requires : goal.push_reserved-requires
push_reserved-requires g c =
    let less : length (drain_items c.loop-ask.ask-iterator) ≡ length (drain_items c.next.new.self) + 1 =
    ap (λ (xs : List Ask). length xs) c.in-Some.ensures.steps.0 ∙ omega arith in
    omega (arith, less, c.loop-ask.invariant.count, c.loop-ask.invariant.capacity, c.requires.room)

pub loop-ask-preserved : goal.loop-ask-preserved
loop-ask-preserved g c =
    let less : length (drain_items c.loop-ask.ask-iterator) ≡ length (drain_items c.next.new.self) + 1 =
    ap (λ (xs : List Ask). length xs) c.in-Some.ensures.steps.0 ∙ omega arith in
    record {
      answered = All-tail IsAnswered c.in-Some.ask _ (All-same IsAnswered _ _ (sym c.in-Some.ensures.steps.0) c.loop-ask.invariant.answered);
      count = omega (arith, less, c.loop-ask.invariant.count, c.push_reserved.ensures.len);
      capacity = c.push_reserved.ensures.capacity ∙ c.loop-ask.invariant.capacity;
      same = c.close_turn-step.ensures.same ∙ c.loop-ask.invariant.same;
      over = one_later {A = ℕ × Step} _ _ _ _ c.push_reserved.ensures.items c.loop-ask.invariant.over.0 c.loop-ask.invariant.over.1;
      turns = c.close_turn-step.ensures.turns.0 ∙ c.loop-ask.invariant.turns;
    }

pub returns-clause-same : goal.returns-clause-same
returns-clause-same g c = c.loop-ask.invariant.same

pub returns-clause-turns : goal.returns-clause-turns
returns-clause-turns g c =
    (omega (arith, c.loop-ask.invariant.count, ap (λ (xs : List Ask). length xs) c.in-None.ensures.steps.0), c.loop-ask.invariant.turns)

pub returns-clause-room : goal.returns-clause-room
returns-clause-room g c = c.loop-ask.invariant.capacity

pub returns-clause-over : goal.returns-clause-over
returns-clause-over g c = c.loop-ask.invariant.over
