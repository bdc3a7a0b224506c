use Rattle.std.proofs.Common.{◌≡◌, ◌∙◌, List, ℕ, Option, Some, None, Result, Ok, Err, ap, inl, inr, refl, sym, subst}
use Rattle.std.proofs.lemmas.Result.{err_from_is_err_and}
use Rattle.xa_scram.specs.Believed.Exchanges.{Answered, answer_of, opened_by}
use Rattle.xa_scram.specs.Believed.Messages.{Asked, SpellsChallenge}
use Rattle.xa_talk.specs.Logins.{Finishes, LogsIn, Opens, Responds}
use Rattle.xa_talk.specs.declared.login_fault.LoginFault.{LoginFault}
use Rattle.xa_talk.specs.declared.login_fault.LoginFault.TheVariants.{NoChallenge}
use Rattle.xa_talk.proofs.logging_in.log_in.Goals as goal

module _ {C : Type 0} (sent left : C → Option (List ℕ)) (name nonce secret : List ℕ) (c c' : C)
    (challenge : Result (List ℕ) LoginFault) (opens : Opens sent left name nonce c challenge c') where
  unopened : (end : Result (Unit {0}) LoginFault) (fault : LoginFault) → challenge ≡ Err fault → end ≡ Err fault
      → LogsIn sent left name nonce secret c end c'
  unopened end fault is ended = (
    c',
    Err fault,
    subst (λ (r : Result (List ℕ) LoginFault). Opens sent left name nonce c r c') is opens,
    (ended, refl),
  )

  responded : (text : List ℕ) (end : Result (Unit {0}) LoginFault) (c'' : C) → challenge ≡ Ok text
      → Responds sent left name nonce secret text c' end c'' → LogsIn sent left name nonce secret c end c''
  responded text end c'' is responds =
      (c', Ok text, subst (λ (r : Result (List ℕ) LoginFault). Opens sent left name nonce c r c') is opens, responds)

answered : {C : Type 0} (sent left : C → Option (List ℕ)) (name nonce secret text told : List ℕ) (response : Answered)
    (c c' : C) (end : Result (Unit {0}) LoginFault) → told ≡ text
    → (a : Asked) × SpellsChallenge nonce told a × (response ≡ answer_of (opened_by name nonce) secret a)
    → Finishes sent left response c end c' → Responds sent left name nonce secret text c end c'
answered sent left name nonce secret text told response c c' end same (asked, spells, is) finishes = inl (
  asked,
  subst (λ (t : List ℕ). SpellsChallenge nonce t asked) same spells,
  subst (λ (r : Answered). Finishes sent left r c end c') is finishes,
)

no_answer : {C : Type 0} (sent left : C → Option (List ℕ)) (name nonce secret text told : List ℕ) (c : C) → told ≡ text
    → ((a : Asked) → SpellsChallenge nonce told a → None ≡ Some (answer_of (opened_by name nonce) secret a))
    → Responds sent left name nonce secret text c (Err NoChallenge) c
no_answer sent left name nonce secret text told c same only = inr (
  λ a spells. absurd (none_some _ (only a (subst (λ (t : List ℕ). SpellsChallenge nonce t a) (sym same) spells))),
  refl,
  refl,
)
  where
    none_some : (x : Answered) → None ≡ Some x → ⊥
    none_some x e = cc e

pub returns-in_err-challenge : goal.returns-in_err-challenge
returns-in_err-challenge g c =
    let p = err_from_is_err_and c.from_residual.result c.from_residual.ensures.1 in
    unopened (λ k. g.W.Write.contents k.writer) (λ k. g.R.Read.remaining k.reader) c.args.name.now c.args.nonce.now c.args.secret.now
    c.args.connection.now c.open.new.connection c.open.result c.open.ensures c.from_residual.result _ c.in_err-challenge.was (p.1 ∙ ap Err p.2)

pub returns-in-Some : goal.returns-in-Some
returns-in-Some g c =
    responded (λ k. g.W.Write.contents k.writer) (λ k. g.R.Read.remaining k.reader) c.args.name.now c.args.nonce.now c.args.secret.now
    c.args.connection.now c.open.new.connection c.open.result c.open.ensures c.in_ok-challenge.challenge c.finish.result c.finish.new.connection
    c.in_ok-challenge.was
    (answered (λ k. g.W.Write.contents k.writer) (λ k. g.R.Read.remaining k.reader) c.args.name.now c.args.nonce.now c.args.secret.now
    c.in_ok-challenge.challenge c.as_slice.result.now c.in-Some.response c.open.new.connection c.finish.new.connection c.finish.result
    c.as_slice.ensures.bytes c.in-Some.ensures.found c.finish.ensures)

pub returns-in-None : goal.returns-in-None
returns-in-None g c =
    responded (λ k. g.W.Write.contents k.writer) (λ k. g.R.Read.remaining k.reader) c.args.name.now c.args.nonce.now c.args.secret.now
    c.args.connection.now c.open.new.connection c.open.result c.open.ensures c.in_ok-challenge.challenge (Err NoChallenge) c.open.new.connection
    c.in_ok-challenge.was
    (no_answer (λ k. g.W.Write.contents k.writer) (λ k. g.R.Read.remaining k.reader) c.args.name.now c.args.nonce.now c.args.secret.now
    c.in_ok-challenge.challenge c.as_slice.result.now c.open.new.connection c.as_slice.ensures.bytes c.in-None.ensures.only)
