-- What a letter tells of the call that it is of.
use Rattle.std.proofs.Common.{◌≡◌, ◌∙◌, ℕ, ◌+◌, Bool, refl, sym, ap, subst, inl, inr}
use Rattle.xa_assoc.specs.Refusals.{is_memory}
use Rattle.xa_frame.specs.Limits.{IsReply}
use Rattle.xa_frame.specs.declared.reply.Reply.{Reply}
use Rattle.xa_frame.specs.declared.request.Request.{Request}
use Rattle.xa_handles.specs.Believed.Accounts.{Ends, HasAsked, told_of}
use Rattle.xa_handles.specs.Mail.{Mailed, mailed}
use Rattle.xa_handles.specs.Owing.{owes_asking, owes_ended}
use Rattle.xa_handles.specs.Believed.Posted.{IsLetter, WasAnswered}
use Rattle.xa_handles.specs.Believed.Shared.{CalledBy, DidCall, DidCallOf}
use Rattle.xa_handles.specs.declared.letter.Content.{Content}
use Rattle.xa_handles.specs.declared.letter.Content.TheVariants.{Answered, Posted}
use Rattle.xa_model.specs.State.{State}
use Rattle.xa_model.specs.declared.event.Event.TheVariants.{Call}
use Rattle.xa_history.specs.Believed.Manages.{Behaviour}
use Rattle.xa_tokens.specs.Believed.Account.{Account, Owes}
use Rattle.xa_tokens.specs.Believed.Receipts.{IsInOrder}
use Rattle.xa_tokens.specs.declared.ask.Ask.{Ask}
use Rattle.xa_tokens.specs.declared.receipt.Receipt.{Receipt}

-- it owes something
abbrev OwesOne : Account → Type 0
OwesOne a = (n : ℕ) × Owes a (n + 1)

-- it owes this many, or none
abbrev pub OwesSome : Account → Type 0
OwesSome a = (n : ℕ) × Owes a n

owes_ended_too : (is_none : Bool) (a before b : Account) (ask : Ask) (reply : Reply) → HasAsked a ask before → Ends is_none before ask reply b
    → OwesSome a → OwesSome b
owes_ended_too is_none a before b ask reply (inl now) ends owes =
    (owes.0, owes_ended is_none before b ask reply owes.0 ends (owes_asking a before ask owes.0 now.1 owes.1))
owes_ended_too is_none a before b ask reply (inr posted) ends owes =
    (posted.1, owes_ended is_none before b ask reply posted.1 ends (subst (λ (x : Account). Owes x (posted.1 + 1)) (sym posted.0) posted.2))

module _ {M : Type 0} (m : Behaviour M) (start : State → Type 0) (base : ℕ × ℕ) where
  -- some number after a call, too
  pub owes_called : (session : ℕ) (a : Account) (request : Request) (reply : Reply) (b : Account) → OwesSome a
      → CalledBy m start base session a request reply b → OwesSome b
  owes_called session a request reply b owes h =
      owes_ended_too (is_memory reply.detail) a h.before b h.ask reply h.asked h.ends owes

  -- a share that owed a call has its end
  called_back : (session : ℕ) (request : Request) (ask : Ask) (reply : Reply) (old new : Account) → ask.event ≡ Call session request
      → OwesOne old → DidCall m start base ask reply → Ends (is_memory reply.detail) old ask reply new
      → CalledBy m start base session old request reply new
  called_back session request ask reply old new event owes did ends =
      let is : Call did.0 did.1 ≡ Call session request = sym did.2 ∙ event in
      let own : did.0 ≡ session = cc is in
      let asked : did.1 ≡ request = cc is in
      record {
        ask = ask;
        event = event;
        before = old;
        asked = inr (refl, owes.0, owes.1);
        did = subst (λ (q : Request). DidCallOf m start base session q reply) asked
            (subst (λ (n : ℕ). DidCallOf m start base n did.1 reply) own did.3);
        ends = ends;
      }

  -- it was told what the letter of its call brought
  pub letter_answered : {B : Type 0} (tray place : ℕ) (content : Content B) (r : Receipt) (l : Mailed) (session : ℕ) (request : Request)
      (reply : Reply) (old new : Account) → content ≡ Answered r → mailed tray place content ≡ l → IsLetter m start base l
      → l.ask.event ≡ Call session request → OwesOne old → new ≡ told_of old r → IsInOrder r → reply ≡ r.reply
      → CalledBy m start base session old request reply new × IsReply reply
  letter_answered {B} tray place content r l session request reply old new is whole letter event owes told order replied =
      let brought : mailed {B = B} tray place (Answered r) ≡ l = ap (λ (c : Content B). mailed tray place c) (sym is) ∙ whole in
      let was : WasAnswered m start base r.ask r.reply = (subst (λ (x : Mailed). IsLetter m start base x) (sym brought) letter).replied in
      let did : DidCall m start base r.ask r.reply = (was.session, was.request, was.event, inr was.among) in
      subst (λ (x : Reply). CalledBy m start base session old request x new × IsReply x) (sym replied) (
        called_back session request r.ask r.reply old new (ap (λ (x : Mailed). x.ask.event) brought ∙ event) owes did
            (subst (λ (b : Bool). Ends b old r.ask r.reply new) (sym was.found) (told, order)),
        was.limits,
      )

  -- or the letter brought the call, which was answered then
  pub letter_posted : {B : Type 0} (tray place : ℕ) (content : Content B) (ask : Ask) (l : Mailed) (session : ℕ) (request : Request)
      (reply replied : Reply) (old new ended : Account) → content ≡ Posted ask → mailed tray place content ≡ l
      → l.ask.event ≡ Call session request → OwesOne old → DidCall m start base ask replied
      → Ends (is_memory replied.detail) old ask replied ended → IsReply replied → reply ≡ replied → new ≡ ended
      → CalledBy m start base session old request reply new × IsReply reply
  letter_posted {B} tray place content ask l session request reply replied old new ended is whole event owes did ends limits same after =
      let brought : mailed {B = B} tray place (Posted ask) ≡ l = ap (λ (c : Content B). mailed tray place c) (sym is) ∙ whole in
      let called : CalledBy m start base session old request replied ended =
      called_back session request ask replied old ended (ap (λ (x : Mailed). x.ask.event) brought ∙ event) owes did ends in (
        subst (λ (x : Reply). CalledBy m start base session old request x new) (sym same)
            (subst (λ (x : Account). CalledBy m start base session old request replied x) (sym after) called),
        subst (λ (x : Reply). IsReply x) (sym same) limits,
      )
