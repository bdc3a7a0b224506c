-- What calls that were answered together come to.
use Rattle.std.proofs.Common.{◌≡◌, ◌<◌, ℕ, suc, zero, List, [], ◌∷◌, length, map, Some, refl, subst, slice_get}
use Rattle.std.specs.List.{AllByRecursion}
use Rattle.xa_frame.specs.declared.reply.Reply.{Reply}
use Rattle.xa_handles.specs.Telling.{IsAnswerTo, shown_reply}
use Rattle.xa_manager.specs.declared.together.Asked.{Asked}
use Rattle.xa_model.specs.State.{State}
use Rattle.xa_model.specs.declared.outcome.Outcome.{Outcome}
use Rattle.xa_model.specs.declared.outcome.Outcome.TheVariants.{Joined}
use Rattle.xa_history.specs.Believed.Book.{receipt_of}
use Rattle.xa_history.specs.Believed.Together.{IsToldOf}
use Rattle.xa_history.specs.declared.entry.Entry.{Entry}
use Rattle.xa_history.specs.Believed.Manages.{Behaviour}
use Rattle.xa_sequencer.specs.Believed.Stands.{GoesOn, HasHistory, Numbered}
use Rattle.xa_sequencer.specs.Believed.Together.{ArePlaced, CalledTogether, entries_for, entry_for}

pub all_within : (calls : List Asked) (rs : List (ℕ × Reply)) → AllByRecursion (IsToldOf calls) rs → AllByRecursion (λ r. r.0 < length calls) rs
all_within calls [] told = tt
all_within calls (r ∷ rs) told = (told.0.within, all_within calls rs told.1)

module _ {M : Type 0} (m : Behaviour M) (start : State → Type 0) (base : ℕ × ℕ) where
  -- it goes on with entries whose receipts are those of the replies
  pub record GoesOnBy (old new : Numbered M) (calls : List Asked) (replies : List (ℕ × Reply)) : Type 0 where
    pub entries : List Entry
    pub goes : GoesOn m start base old entries new
    pub are : map receipt_of entries ≡ map (shown_reply calls) replies

  all_shown : (calls : List Asked) (o : Outcome) (rs : List (ℕ × Reply)) → map receipt_of (map (entry_for calls o) rs) ≡ map (shown_reply calls) rs
  all_shown calls o [] = refl
  all_shown calls o (r ∷ rs) = λ i. shown_reply calls r ∷ all_shown calls o rs i

  pub goes_on_by : (old new : Numbered M) (calls : List Asked) (replies : List (ℕ × Reply)) → CalledTogether m start base old calls replies new
      → GoesOnBy old new calls replies
  goes_on_by old new calls [] did = record { entries = []; goes = did.goes_on; are = refl }
  goes_on_by old new calls (r ∷ rs) did = record {
    entries = entries_for calls did.0 r rs;
    goes = did.1.goes_on;
    are = λ i. shown_reply calls r ∷ all_shown calls (Joined did.0) rs i;
  }

  pub are_placed : (old new : Numbered M) (calls : List Asked) (replies : List (ℕ × Reply)) → CalledTogether m start base old calls replies new
      → ArePlaced old.count replies
  are_placed old new calls [] did = tt
  are_placed old new calls (r ∷ rs) did = did.1.places

  all_told : (old new : Numbered M) (calls : List Asked) (replies : List (ℕ × Reply)) → CalledTogether m start base old calls replies new
      → AllByRecursion (IsToldOf calls) replies
  all_told old new calls [] did = tt
  all_told old new calls (r ∷ rs) did = did.1.told

  one_of : (P : ℕ × Reply → Type 0) (rs : List (ℕ × Reply)) (at : ℕ) (r : ℕ × Reply) → slice_get rs at ≡ Some r → AllByRecursion P rs → P r
  one_of P [] at r is all = absurd (cc is)
  one_of P (q ∷ qs) zero r is all = let same : q ≡ r = cc is in subst P same all.0
  one_of P (q ∷ qs) (suc at) r is all = one_of P qs at r is all.1

  answer : (old new : Numbered M) (calls : List Asked) (replies : List (ℕ × Reply)) → HasHistory m start base old
      → CalledTogether m start base old calls replies new → (at : ℕ) (r : ℕ × Reply) → slice_get replies at ≡ Some r → IsAnswerTo m start base calls r
  answer old new calls replies history did at r is after =
      let told = one_of (IsToldOf calls) replies at r is (all_told old new calls replies did) in
      record {
        session = _;
        request = _;
        event = refl;
        among = record {
          old = old;
          new = new;
          history = history;
          calls = calls;
          replies = replies;
          did = did;
          at = at;
          call = r.0;
          told = is;
          asked = refl;
        };
        found = told.found;
        limits = told.limits;
      }

  -- each reply is what its call was answered
  pub all_answers : (old new : Numbered M) (calls : List Asked) (replies : List (ℕ × Reply)) → HasHistory m start base old
      → CalledTogether m start base old calls replies new → AllByRecursion (IsAnswerTo m start base calls) replies
  all_answers old new calls replies history did = each replies (λ at r is. answer old new calls replies history did at r is)
    where
      each : (rs : List (ℕ × Reply)) → ((at : ℕ) (r : ℕ × Reply) → slice_get rs at ≡ Some r → IsAnswerTo m start base calls r)
          → AllByRecursion (IsAnswerTo m start base calls) rs
      each [] is = tt
      each (r ∷ rs) is = (is 0 r refl, each rs (λ at. is (suc at)))
