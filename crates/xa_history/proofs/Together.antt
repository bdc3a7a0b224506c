-- What is told of calls that were answered together, and the entries that they are.
use Rattle.std.proofs.Common.{◌≡◌, ◌∙◌, ℕ, false, List, [], ◌∷◌, map, Result, Ok, Err, IfOk, refl, sym, ap, subst}
use Rattle.std.specs.List.{AllByRecursion}
use Rattle.xa_assoc.specs.Refusals.{is_memory}
use Rattle.xa_codes.specs.declared.codes.TheConstants.{XAER_RMFAIL}
use Rattle.xa_codes.specs.declared.detail.Detail.TheVariants as detail
use Rattle.xa_frame.specs.Limits.{IsReply}
use Rattle.xa_frame.specs.declared.reply.Reply.{Reply}
use Rattle.xa_frame.specs.declared.request.Request.{Request}
use Rattle.xa_model.specs.Answer.{detailed}
use Rattle.xa_model.specs.Laws.Together.{entry_of, group_entries, replied}
use Rattle.xa_model.specs.State.{State}
use Rattle.xa_model.specs.Turn as turn
use Rattle.xa_model.specs.declared.event.Event.TheVariants.{Call}
use Rattle.xa_model.specs.declared.outcome.Appending.{Appending}
use Rattle.xa_model.specs.declared.outcome.Appending.TheVariants.{Kept, Refused, Lost}
use Rattle.xa_model.specs.declared.outcome.Outcome.{Outcome}
use Rattle.xa_model.specs.declared.outcome.Outcome.TheVariants.{Appended, Joined}
use Rattle.xa_manager.specs.GroupAnswers.{AreReplies, IsReplyTo}
use Rattle.xa_manager.specs.Believed.Together.{Member, part_of, parts_of}
use Rattle.xa_manager.specs.declared.together.Asked.{Asked}
use Rattle.xa_history.specs.Believed.Together.{AreUnplaced, IsToldOf, event_at, events_of, lost_entries, lost_entry, told_entries, told_entry}

pub if_ok : {A E : Type 0} (r : Result A E) (P Q : A → Type 0) → ((x : A) → P x → Q x) → IfOk r P → IfOk r Q
if_ok (Ok x) P Q f h = f x h
if_ok (Err e) P Q f h = h

-- no reply of a group tells of a want of memory, and each is short and has no place
reply_found : (a : Appending) (q : Request) → is_memory (replied a q).detail ≡ false
reply_found Kept q = refl
reply_found Refused q = refl
reply_found Lost q = refl

reply_short : (a : Appending) (q : Request) → IsReply (replied a q)
reply_short Kept q = tt
reply_short Refused q = tt
reply_short Lost q = tt

reply_unplaced : (a : Appending) (q : Request) → (replied a q).place ≡ 0
reply_unplaced Kept q = refl
reply_unplaced Refused q = refl
reply_unplaced Lost q = refl

one_told : (calls : List Asked) (a : Appending) (c : Member) (r : ℕ × Reply) → IsReplyTo calls a c r → IsToldOf calls r
one_told calls a c r h = record {
  within = h.within;
  found = ap (λ (x : Reply). is_memory x.detail) h.reply ∙ reply_found a c.request;
  limits = subst IsReply (sym h.reply) (reply_short a c.request);
}

pub all_told : (calls : List Asked) (a : Appending) (cs : List Member) (rs : List (ℕ × Reply)) → AreReplies calls a cs rs → AllByRecursion (IsToldOf calls) rs
all_told calls a [] [] h = tt
all_told calls a [] (r ∷ rs) h = absurd h
all_told calls a (c ∷ cs) [] h = absurd h
all_told calls a (c ∷ cs) (r ∷ rs) h = (one_told calls a c r h.0, all_told calls a cs rs h.1)

pub all_unplaced : (calls : List Asked) (a : Appending) (cs : List Member) (rs : List (ℕ × Reply)) → AreReplies calls a cs rs → AreUnplaced rs
all_unplaced calls a [] [] h = tt
all_unplaced calls a [] (r ∷ rs) h = absurd h
all_unplaced calls a (c ∷ cs) [] h = absurd h
all_unplaced calls a (c ∷ cs) (r ∷ rs) h =
    (ap (λ (x : Reply). x.place) h.0.reply ∙ reply_unplaced a c.request, all_unplaced calls a cs rs h.1)

-- the entries of its calls are those that the replies tell of
one_entry : (s : State) (calls : List Asked) (o : Outcome) (a : Appending) (c : Member) (r : ℕ × Reply) → IsReplyTo calls a c r
    → entry_of o a (part_of s c) ≡ told_entry calls o r
one_entry s calls o a c r h = λ i. record { happening = turn.Asked (Call (sym h.session i) (sym h.request i)); outcome = o; reply = sym h.reply i }

all_entries : (s : State) (calls : List Asked) (o : Outcome) (a : Appending) (cs : List Member) (rs : List (ℕ × Reply)) → AreReplies calls a cs rs
    → map (entry_of o a) (parts_of s cs) ≡ map (told_entry calls o) rs
all_entries s calls o a [] [] h = refl
all_entries s calls o a [] (r ∷ rs) h = absurd h
all_entries s calls o a (c ∷ cs) [] h = absurd h
all_entries s calls o a (c ∷ cs) (r ∷ rs) h = λ i. one_entry s calls o a c r h.0 i ∷ all_entries s calls o a cs rs h.1 i

pub group_told : (s : State) (calls : List Asked) (a : Appending) (c : Member) (cs : List Member) (r : ℕ × Reply) (rs : List (ℕ × Reply))
    → AreReplies calls a (c ∷ cs) (r ∷ rs) → group_entries a (part_of s c) (parts_of s cs) ≡ told_entries calls a r rs
group_told s calls a c cs r rs h = λ i. one_entry s calls (Appended a) a c r h.0 i ∷ all_entries s calls (Joined a) a cs rs h.1 i

-- the same of records that are lost
one_lost : (s : State) (calls : List Asked) (o : Outcome) (a : Appending) (c : Member) (r : ℕ × Reply) → IsReplyTo calls a c r
    → entry_of o Lost (part_of s c) ≡ lost_entry o (event_at calls r.0)
one_lost s calls o a c r h = λ i.
    record { happening = turn.Asked (Call (sym h.session i) (sym h.request i)); outcome = o; reply = detailed XAER_RMFAIL detail.Device }

all_lost : (s : State) (calls : List Asked) (o : Outcome) (a : Appending) (cs : List Member) (rs : List (ℕ × Reply)) → AreReplies calls a cs rs
    → map (entry_of o Lost) (parts_of s cs) ≡ map (lost_entry o) (events_of calls rs)
all_lost s calls o a [] [] h = refl
all_lost s calls o a [] (r ∷ rs) h = absurd h
all_lost s calls o a (c ∷ cs) [] h = absurd h
all_lost s calls o a (c ∷ cs) (r ∷ rs) h = λ i. one_lost s calls o a c r h.0 i ∷ all_lost s calls o a cs rs h.1 i

pub group_lost : (s : State) (calls : List Asked) (a : Appending) (c : Member) (cs : List Member) (r : ℕ × Reply) (rs : List (ℕ × Reply))
    → AreReplies calls a (c ∷ cs) (r ∷ rs) → group_entries Lost (part_of s c) (parts_of s cs) ≡ lost_entries (events_of calls (r ∷ rs))
group_lost s calls a c cs r rs h = λ i. one_lost s calls (Appended Lost) a c r h.0 i ∷ all_lost s calls (Joined Lost) a cs rs h.1 i
