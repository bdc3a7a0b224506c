-- What the sequencer did for a share.
use Rattle.std.proofs.Common.{◌≡◌, ◌∙◌, ℕ, ◌+◌, List, [], ◌∷◌, ◌++◌, Bool, true, false, Option, None, Some, Result, refl, sym, subst, arith, inl}
use Rattle.std.specs.Prelude.{MatchBool, pos}
use Rattle.xa_assoc.specs.Refusals.{is_memory}
use Rattle.xa_assoc.specs.declared.fault.ConnectFault.{ConnectFault}
use Rattle.xa_frame.specs.declared.reply.Reply.{Reply}
use Rattle.xa_frame.specs.declared.request.Request.{Request}
use Rattle.xa_handles.specs.Believed.Accounts.{AsksAtOnce, IsToldAtOnce}
use Rattle.xa_handles.specs.Mail.{AreLetters, FitPending, Mailed, ask_weight, told_weight}
use Rattle.xa_handles.specs.Believed.Shared.{ConnectedBy, DidCall, LeftBy}
use Rattle.xa_handles.specs.Believed.Standing.{HasBook, KeepsMail, Standing, TellsMail}
use Rattle.xa_handles.specs.Telling.{AnswersAll}
use Rattle.xa_handles.proofs.Booking.{adds, rests}
use Rattle.xa_manager.specs.Believed.Answered.{connect_reply}
use Rattle.xa_manager.specs.declared.together.Asked.{Asked}
use Rattle.xa_model.specs.Answer.{plain}
use Rattle.xa_model.specs.State.{State}
use Rattle.xa_model.specs.declared.event.Event.{Event}
use Rattle.xa_model.specs.declared.event.Event.TheVariants.{Connect, Hangup, Call}
use Rattle.xa_history.specs.Believed.Book.{placed}
use Rattle.xa_history.specs.Believed.Manages.{Behaviour}
use Rattle.xa_sequencer.specs.Believed.Numbers.{Adds, Called, Connected, Leaves, Left}
use Rattle.xa_sequencer.specs.Believed.Stands.{HasHistory, Numbered}
use Rattle.xa_tokens.specs.declared.ask.Ask.{Ask}
use Rattle.xa_tokens.specs.declared.receipt.Receipt.{Receipt}
use Rattle.xa_tokens.specs.Believed.Account.{Account}
use Rattle.xa_tokens.specs.Believed.Receipts.{receipt_of}

pub fits : (p : Option (List Asked)) (letters : List (Option Mailed)) → p ≡ None → FitPending p letters
fits None letters is = tt
fits (Some calls) letters is = absurd (cc is)

pub are_letters : (p : Option (List Asked)) (letters : List (Option Mailed)) (calls : List Asked) → p ≡ Some calls → FitPending p letters → AreLetters letters calls
are_letters p letters calls is fits = subst (λ (x : Option (List Asked)). FitPending x letters) is fits

is_told : (is_none : Bool) (old new : Account) (event : Event) (reply : Reply) → is_none ≡ false → IsToldAtOnce old event reply new → AsksAtOnce is_none old event reply new
is_told false old new event reply is told = told
is_told true old new event reply is told = absurd (cc is)

is_untold : (is_none : Bool) (old : Account) (event : Event) (reply : Reply) → is_none ≡ true → AsksAtOnce is_none old event reply old
is_untold true old event reply is = refl
is_untold false old event reply is = absurd (cc is)

was_true : (A B : Type 0) (b : Bool) → b ≡ true → MatchBool b A B → A
was_true A B true is h = h
was_true A B false is h = absurd (cc is)

was_false : (A B : Type 0) (b : Bool) → b ≡ false → MatchBool b A B → B
was_false A B false is h = h
was_false A B true is h = absurd (cc is)

module _ {M : Type 0} (m : Behaviour M) (start : State → Type 0) (base : ℕ × ℕ) where
  -- ---- a connect

  pub connect_adds : (old new : Numbered M) (result : Result ℕ ConnectFault) (reply : Reply) → is_memory (connect_reply result).detail ≡ false
      → Connected m start base old result new → reply ≡ placed (old.count + 1) (connect_reply result) → Adds m start base old Connect reply new
  connect_adds old new result reply found did is =
      subst (λ (r : Reply). Adds m start base old Connect r new) (sym is) (was_false _ _ _ found did)

  pub connect_counts : (old new : Numbered M) (result : Result ℕ ConnectFault) → is_memory (connect_reply result).detail ≡ false → Connected m start base old result new
      → new.count ≡ old.count + 1
  connect_counts old new result found did =
      let added : Adds m start base old Connect (placed (old.count + 1) (connect_reply result)) new = was_false _ _ _ found did in
      added.count

  pub connect_none : (old new : Numbered M) (result : Result ℕ ConnectFault) (account : Account) → HasHistory m start base old
      → is_memory (connect_reply result).detail ≡ true → Connected m start base old result new → ConnectedBy m start base account result account
  connect_none old new result account history found did = record {
    reply = placed (old.count + 1) (connect_reply result);
    did = record { old = old; new = new; history = history; did = (did, refl) };
    told = is_untold _ account Connect (placed (old.count + 1) (connect_reply result)) found;
  }

  pub connect_told : (old new : Numbered M) (result : Result ℕ ConnectFault) (reply : Reply) (before after : Account) → HasHistory m start base old
      → is_memory (connect_reply result).detail ≡ false → Connected m start base old result new → reply ≡ placed (old.count + 1) (connect_reply result)
      → IsToldAtOnce before Connect reply after → ConnectedBy m start base before result after
  connect_told old new result reply before after history found did is told = record {
    reply = reply;
    did = record { old = old; new = new; history = history; did = (did, is) };
    told = is_told _ before after Connect reply found told;
  }

  -- ---- a hang-up

  pub hangup_adds : (old new : Numbered M) (session : ℕ) (reply : Reply) → true ≡ m.has_session old.now session → Left m start base session old new
      → reply ≡ placed (old.count + 1) (plain (pos 0)) → Adds m start base old (Hangup session) reply new
  hangup_adds old new session reply was did is =
      subst (λ (r : Reply). Adds m start base old (Hangup session) r new) (sym is) (was_true _ _ _ (sym was) did)

  pub hangup_counts : (old new : Numbered M) (session : ℕ) → true ≡ m.has_session old.now session → Left m start base session old new → new.count ≡ old.count + 1
  hangup_counts old new session was did =
      let added : Adds m start base old (Hangup session) (placed (old.count + 1) (plain (pos 0))) new = was_true _ _ _ (sym was) did in
      added.count

  pub hangup_none : (old new : Numbered M) (session : ℕ) (account : Account) → HasHistory m start base old → false ≡ m.has_session old.now session
      → Left m start base session old new → LeftBy m start base session account false account
  hangup_none old new session account history was did = record {
    reply = placed (old.count + 1) (plain (pos 0));
    did = record { old = old; new = new; history = history; did = (was, did, refl) };
    told = refl;
  }

  pub hangup_told : (old new : Numbered M) (session : ℕ) (reply : Reply) (before after : Account) → HasHistory m start base old → true ≡ m.has_session old.now session
      → Left m start base session old new → reply ≡ placed (old.count + 1) (plain (pos 0)) → IsToldAtOnce before (Hangup session) reply after
      → LeftBy m start base session before true after
  hangup_told old new session reply before after history was did is told = record {
    reply = reply;
    did = record { old = old; new = new; history = history; did = (was, did, is) };
    told = told;
  }

  -- ---- a call

  pub call_did : (old new : Numbered M) (ask : Ask) (session : ℕ) (request : Request) (reply : Reply) → HasHistory m start base old → ask.event ≡ Call session request
      → Called m start base session old request reply new → DidCall m start base ask reply
  call_did old new ask session request reply history is did = (session, request, is, inl (record { old = old; new = new; history = history; did = did }))

  pub call_book : (old new : Numbered M) (history history' : List Receipt) (ask : Ask) (session : ℕ) (request : Request) (reply : Reply)
      → ask.event ≡ Call session request → Called m start base session old request reply new
      → MatchBool (is_memory reply.detail) (history' ≡ history) (history' ≡ history ++ receipt_of ask reply ∷ [])
      → HasBook m start base old history → HasBook m start base new history'
  call_book old new history history' ask session request reply is did noted book = by (is_memory reply.detail) did noted
    where
      by : (b : Bool) → MatchBool b (Leaves m start base old (Call session request) reply new) (Adds m start base old (Call session request) reply new)
          → MatchBool b (history' ≡ history) (history' ≡ history ++ receipt_of ask reply ∷ []) → HasBook m start base new history'
      by true left same = rests m start base old new history history' left.goes_on same book
      by false added more = adds m start base old new history history' ask (Call session request) reply added is more book

  -- ---- a group

  pub tells : (a a' : Numbered M) (calls : List Asked) (replies : List (ℕ × Reply)) (h h' : List Receipt) (ls ls' : List (Option Mailed)) (ts : List (List Mailed))
      → AnswersAll calls replies h ls h' ls'
      → TellsMail (record { at = a; history = h; letters = ls; trays = ts }) (record { at = a'; history = h'; letters = ls'; trays = ts })
  tells a a' calls replies h h' ls ls' ts all = record {
    more = all.more;
    history = all.history_is;
    told = λ weigh. omega (arith, all.told weigh);
    asks = λ weigh. omega (arith, all.asks weigh);
  }

  pub tells_kept : (a b c : Standing M) → TellsMail a b → KeepsMail b c → TellsMail a c
  tells_kept a b c told kept = record {
    more = told.more;
    history = kept.history ∙ told.history;
    told = λ weigh. kept.letters (told_weight weigh) ∙ told.told weigh;
    asks = λ weigh. kept.letters (ask_weight weigh) ∙ told.asks weigh;
  }
