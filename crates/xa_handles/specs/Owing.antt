-- What a share owes, after what it did.
use Rattle.std.proofs.Common.{ℕ, ◌≡◌, ◌+◌, zero, suc, [], ◌∷◌, refl, Bool, true, false, inl, inr, arith, ap, length, length-append}
use Rattle.xa_frame.specs.declared.reply.Reply.{Reply}
use Rattle.xa_handles.specs.Believed.Accounts.{AsksAtOnce, Ends, HasAsked, asking, next_ask, told_of, without}
use Rattle.xa_model.specs.declared.event.Event.{Event}
use Rattle.xa_tokens.specs.declared.ask.Ask.{Ask}
use Rattle.xa_tokens.specs.declared.receipt.Receipt.{Receipt}
use Rattle.xa_tokens.specs.Believed.Account.{Account, Owes}
use Rattle.xa_tokens.specs.Believed.Receipts.{receipt_of}

pub owes_asking : (a b : Account) (ask : Ask) (n : ℕ) → b ≡ asking a ask → Owes a n → Owes b (n + 1)
owes_asking a b ask n is owes =
    omega (
      arith,
      owes,
      length-append a.asked (ask ∷ []),
      ap (λ (x : Account). length x.asked) is,
      ap (λ (x : Account). length x.told) is,
      ap (λ (x : Account). length x.given_up) is,
    )

pub owes_told : (a b : Account) (r : Receipt) (n : ℕ) → b ≡ told_of a r → Owes a (n + 1) → Owes b n
owes_told a b r n is owes =
    omega (
      arith,
      owes,
      length-append a.told (r ∷ []),
      ap (λ (x : Account). length x.asked) is,
      ap (λ (x : Account). length x.told) is,
      ap (λ (x : Account). length x.given_up) is,
    )

pub owes_without : (a b : Account) (ask : Ask) (n : ℕ) → b ≡ without a ask → Owes a (n + 1) → Owes b n
owes_without a b ask n is owes =
    omega (
      arith,
      owes,
      length-append a.given_up (ask ∷ []),
      ap (λ (x : Account). length x.asked) is,
      ap (λ (x : Account). length x.told) is,
      ap (λ (x : Account). length x.given_up) is,
    )

-- it owes something
pub owes_some : (a : Account) (n : ℕ) → Owes a n → (n ≡ 0 → ⊥) → (k : ℕ) × Owes a (k + 1)
owes_some a zero owes some = absurd (some refl)
owes_some a (suc k) owes some = (k, omega (arith, owes))

-- the ask that it asked ends
pub owes_ended : (is_none : Bool) (a b : Account) (ask : Ask) (reply : Reply) (n : ℕ) → Ends is_none a ask reply b → Owes a (n + 1) → Owes b n
owes_ended true a b ask reply n ends owes = owes_without a b ask n ends owes
owes_ended false a b ask reply n ends owes = owes_told a b (receipt_of ask reply) n ends.0 owes

-- what it asks at once it no longer owes
pub owes_at_once : (is_none : Bool) (a b : Account) (event : Event) (reply : Reply) (n : ℕ) → AsksAtOnce is_none a event reply b → Owes a n → Owes b n
owes_at_once true a b event reply n same owes =
    omega (arith, owes, ap (λ (x : Account). length x.asked) same, ap (λ (x : Account). length x.told) same, ap (λ (x : Account). length x.given_up) same)
owes_at_once false a b event reply n asks owes =
    owes_told (asking a (next_ask a event)) b (receipt_of (next_ask a event) reply) n asks.0 (owes_asking a (asking a (next_ask a event)) (next_ask a event) n refl owes)

-- who owed nothing has asked now
pub owes_asked : (a b : Account) (ask : Ask) → HasAsked a ask b → Owes a 0 → Owes b 1
owes_asked a b ask (inl now) owes = owes_asking a b ask 0 now.1 owes
owes_asked a b ask (inr before) owes = absurd (none before.1 owes before.2)
  where
    none : (n : ℕ) → Owes a 0 → Owes a (n + 1) → ⊥
    none n owes more = omega (arith, owes, more)
