-- What becomes of the account of a share.
use Rattle.std.specs.Prelude.{ℕ, ◌≡◌, ◌⊎◌, ◌+◌, [], ◌∷◌, ◌++◌, Bool, MatchBool}
use Rattle.xa_frame.specs.declared.reply.Reply.{Reply}
use Rattle.xa_model.specs.declared.event.Event.{Event}
use Rattle.xa_tokens.specs.declared.ask.Ask.{Ask}
use Rattle.xa_tokens.specs.declared.receipt.Receipt.{Receipt}
use Rattle.xa_tokens.specs.Believed.Account.{Account, Owes}
use Rattle.xa_tokens.specs.Believed.Receipts.{IsInOrder, ask_of, last_or, receipt_of}

-- an event, asked after what the share was told last
abbrev pub next_ask : Account → Event → Ask
next_ask a event = ask_of event (last_or 0 a.told)

-- it asked for one more thing
abbrev pub asking : Account → Ask → Account
asking a ask = record a { asked = a.asked ++ ask ∷ [] }

-- it was told one more entry
abbrev pub told_of : Account → Receipt → Account
told_of a r = record a { told = a.told ++ r ∷ [] }

-- it gave up one thing
abbrev pub without : Account → Ask → Account
without a ask = record a { given_up = a.given_up ++ ask ∷ [] }

-- It was told the entry of what it asked, which stands after what it had been told before it asked; or memory ran out,
-- and it gave the ask up.
abbrev pub Ends : Bool → Account → Ask → Reply → Account → Type 0
Ends is_none old ask reply new =
    MatchBool is_none (new ≡ without old ask) ((new ≡ told_of old (receipt_of ask reply)) × IsInOrder (receipt_of ask reply))

-- an event was asked for, and it was told the entry
abbrev pub IsToldAtOnce : Account → Event → Reply → Account → Type 0
IsToldAtOnce old event reply new =
    (new ≡ told_of (asking old (next_ask old event)) (receipt_of (next_ask old event) reply))
    × IsInOrder (receipt_of (next_ask old event) reply)

-- the same, if the event is an entry
abbrev pub AsksAtOnce : Bool → Account → Event → Reply → Account → Type 0
AsksAtOnce is_none old event reply new = MatchBool is_none (new ≡ old) (IsToldAtOnce old event reply new)

-- It asks now; or it asked before, and that was owed to it.
abbrev pub HasAsked : Account → Ask → Account → Type 0
HasAsked old ask new =
    ((ask ≡ next_ask old ask.event) × (new ≡ asking old ask)) ⊎ ((new ≡ old) × (n : ℕ) × Owes old (n + 1))

-- a call was posted by it
abbrev pub Posts : Account → Event → Account → Type 0
Posts old event new = new ≡ asking old (next_ask old event)
