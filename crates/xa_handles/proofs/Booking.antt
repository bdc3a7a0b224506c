-- The keeper's history has the entries of each history that the sequencer stands for.
use Rattle.std.proofs.Common.{◌≡◌, ◌∙◌, ℕ, ◌+◌, List, [], ◌∷◌, ◌++◌, length, map, refl, sym, ap, append-nil}
use Rattle.std.proofs.lemmas.List.{length-map, map-append}
use Rattle.xa_frame.specs.declared.reply.Reply.{Reply}
use Rattle.xa_handles.specs.Believed.Shared.{HoldsAt}
use Rattle.xa_handles.specs.Believed.Standing.{HasBook, shown}
use Rattle.xa_model.specs.State.{State}
use Rattle.xa_model.specs.declared.event.Event.{Event}
use Rattle.xa_history.specs.Believed.Book.{receipt_of}
use Rattle.xa_history.specs.declared.entry.Entry.{Entry}
use Rattle.xa_history.specs.Believed.Manages.{Behaviour}
use Rattle.xa_sequencer.specs.Believed.Numbers.{Adds}
use Rattle.xa_sequencer.specs.Believed.Stands.{AllPromise, GoesOn, HasHistory, Numbered, Stands}
use Rattle.xa_tokens.specs.Believed.Account.{Account, IsWithin}
use Rattle.xa_tokens.specs.declared.ask.Ask.{Ask}
use Rattle.xa_tokens.specs.declared.receipt.Receipt.{Receipt}
use Rattle.xa_tokens.specs.Believed.Receipts as tokens

module _ {M : Type 0} (m : Behaviour M) (start : State → Type 0) (base : ℕ × ℕ) where
  -- it goes on with entries, which the keeper has noted
  pub goes_on : (old new : Numbered M) (history history' : List Receipt) (entries : List Entry) (more : List Receipt)
      → GoesOn m start base old entries new → map receipt_of entries ≡ map shown more → history' ≡ history ++ more
      → HasBook m start base old history → HasBook m start base new history'
  goes_on old new history history' entries more goes same is book = record {
    entries = book.entries ++ entries;
    stands = goes book.entries book.stands;
    same = map-append receipt_of book.entries entries
        ∙ (λ i. book.same i ++ same i)
        ∙ sym (map-append shown history more)
        ∙ ap (λ (rs : List Receipt). map shown rs) (sym is);
  }

  -- it goes on with none
  pub rests : (old new : Numbered M) (history history' : List Receipt) → GoesOn m start base old [] new → history' ≡ history
      → HasBook m start base old history → HasBook m start base new history'
  rests old new history history' goes is book = goes_on old new history history' [] [] goes refl (is ∙ sym (append-nil history)) book

  -- it is an empty history's
  pub empty : (c : Numbered M) → Stands m start base c [] → HasBook m start base c []
  empty c stands = record { entries = []; stands = stands; same = refl }

  -- it counts what the keeper has noted
  pub counts : (c : Numbered M) (history : List Receipt) → HasBook m start base c history → c.count ≡ length history
  counts c history book =
      book.stands.count_is ∙ sym (length-map book.entries receipt_of) ∙ ap length book.same ∙ length-map history shown

  pub has_history : (c : Numbered M) (history : List Receipt) → HasBook m start base c history → HasHistory m start base c
  has_history c history book = (book.entries, book.stands)

  -- an event more
  pub adds : (old new : Numbered M) (history history' : List Receipt) (ask : Ask) (event : Event) (reply : Reply)
      → Adds m start base old event reply new → ask.event ≡ event → history' ≡ history ++ tokens.receipt_of ask reply ∷ []
      → HasBook m start base old history → HasBook m start base new history'
  adds old new history history' ask event reply added same is book =
      goes_on old new history history' _ (tokens.receipt_of ask reply ∷ []) added.goes_on
      (λ i. record { place = reply.place; event = sym same i; reply = reply } ∷ []) is book

  -- its place is the next one
  pub next_place : (old new : Numbered M) (history : List Receipt) (event : Event) (reply : Reply) → Adds m start base old event reply new
      → HasBook m start base old history → reply.place ≡ length history + 1
  next_place old new history event reply added book = added.place ∙ ap (λ n. n + 1) (counts old history book)

  -- at a moment, by what was told of it
  pub holds_at : (c : Numbered M) (receipts : List Receipt) (a : Account) → HasBook m start base c receipts → AllPromise m start base c
      → IsWithin receipts a → HoldsAt m start base c a
  holds_at c receipts a book promise within = record {
    entries = book.entries;
    receipts = receipts;
    stands = book.stands;
    promises = promise book.entries book.stands;
    are = book.same;
    within = within;
  }
