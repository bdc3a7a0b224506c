-- How a call of a disk in memory moves its time on.
use Rattle.std.proofs.Common.{◌≡◌, inl, inr, ℕ, ◌+◌, Bool, true, false, List, [], ◌∷◌, ◌++◌, length, refl, sym, ◌∙◌, ap, subst, arith, length-append, OnOk, Result, Ok, Err, MatchBool, IsTrue}
use Rattle.std.proofs.lemmas.List.{take_all, take-append-le}
use Rattle.std.proofs.lemmas.Bool.{cases_lt}
use Rattle.xa_disk.specs.Disk.{Torn, Cut, Same, Only, Passes}
use Rattle.xa_disk.specs.declared.call.Call.{Call}
use Rattle.xa_disk.specs.declared.call.Call.TheVariants.{Write, Sync}
use Rattle.xa_disk.specs.MemDiskView.{MemDiskView}
use Rattle.xa_disk.specs.Replay.{Now, after, replay, replay_more, at_first, IsImage, LeftSince}
use Rattle.xa_disk.specs.Images.{cut_same, seen_may_stay, torn_same}
use Rattle.xa_disk.specs.Memory.{Keeps, Wrote, Synced}

abbrev Elapsed : (List ℕ → List ℕ → Type 0) → List ℕ → List Call → List ℕ → List Call → Type 0
Elapsed step first calls first' calls' =
    Passes step (length calls) (length calls') (LeftSince first calls) (LeftSince first' calls') (IsImage (replay first calls)) (IsImage (replay first' calls'))

none : (step : List ℕ → List ℕ → Type 0) → ((c : List ℕ) → step c c) → (first : List ℕ) (calls : List Call) → Elapsed step first calls first calls
none step same first calls = record {
  later = omega arith;
  follows = λ c now. (c, now, same c);
  nothing_else = λ t c le left. inl left;
  keeps = λ t c le left. left;
}

more : (step : List ℕ → List ℕ → Type 0) (first : List ℕ) (calls : List Call) (call : Call) → ((c : List ℕ) → IsImage (after call (replay first calls)) c → (d : List ℕ) × IsImage (replay first calls) d × step d c)
    → Elapsed step first calls first (calls ++ call ∷ [])
more step first calls call goes = record {
  later = omega (arith, longer);
  follows = follows;
  nothing_else = λ t c le left.
      elim (cases_lt (length calls) left.0) [
        | inl past ↦ inr (follows c (subst (λ (l : List Call). IsImage (replay first l) c) (take_all left.0 (calls ++ call ∷ []) (omega (arith, longer))) left.3))
        | inr within ↦ inl (left.0, left.1, within, subst (λ (l : List Call). IsImage (replay first l) c) (take-append-le left.0 calls (call ∷ []) within) left.3)
      ];
  keeps = λ t c le left.
      (left.0, left.1, omega (arith, left.2, longer), subst (λ (l : List Call). IsImage (replay first l) c) (sym (take-append-le left.0 calls (call ∷ []) left.2)) left.3);
}
  where
    longer : length (calls ++ call ∷ []) ≡ length calls + 1
    longer = length-append calls (call ∷ [])

    follows : (c : List ℕ) → IsImage (replay first (calls ++ call ∷ [])) c → (d : List ℕ) × IsImage (replay first calls) d × step d c
    follows c now = goes c (subst (λ (s : Now). IsImage s c) (replay_more (at_first first) calls call) now)

to : (step : List ℕ → List ℕ → Type 0) (first first' : List ℕ) (calls calls' calls'' : List Call) → first' ≡ first → calls'' ≡ calls' → Elapsed step first calls first calls' → Elapsed step first calls first' calls''
to step first first' calls calls' calls'' f l passes =
    subst (λ (x : List ℕ). Elapsed step first calls x calls'') (sym f) (subst (λ (x : List Call). Elapsed step first calls first x) (sym l) passes)

abbrev Between : (List ℕ → List ℕ → Type 0) → MemDiskView → MemDiskView → Type 0
Between step a e = Elapsed step a.first a.calls e.first e.calls

pub time_put : (a b d e : MemDiskView) (done : Bool) (at : ℕ) (bytes : List ℕ) → Keeps a b → MatchBool done (Wrote b d at bytes) (Keeps b d) → Keeps d e → Between (Torn at (length bytes)) a e
time_put a b d e true at bytes s w k =
    let v = w.noted.0 in
    subst (λ (xs : List ℕ). Between (Torn at (length xs)) a e) w.noted.1
    (to (Torn at (length v.items)) a.first e.first a.calls (a.calls ++ Write at v ∷ []) e.calls
    (k.first ∙ w.first ∙ s.first)
    (k.calls ∙ w.noted.2 ∙ ap (λ (l : List Call). l ++ Write at v ∷ []) s.calls)
    (more _ a.first a.calls (Write at v) (λ c now. now)))
time_put a b d e false at bytes s w k =
    to _ a.first e.first a.calls a.calls e.calls (k.first ∙ w.first ∙ s.first) (k.calls ∙ w.calls ∙ s.calls)
    (none _ (torn_same at (length bytes)) a.first a.calls)

pub time_sync : (a b d e : MemDiskView) (done : Bool) → Keeps a b → MatchBool done (Synced b d) (Keeps b d) → Keeps d e → Between Same a e
time_sync a b d e true s w k =
    to Same a.first e.first a.calls (a.calls ++ Sync ∷ []) e.calls (k.first ∙ w.first ∙ s.first)
    (k.calls ∙ w.noted ∙ ap (λ (l : List Call). l ++ Sync ∷ []) s.calls)
    (more _ a.first a.calls Sync (λ c now. ((replay a.first a.calls).seen, seen_may_stay a.first a.calls, now)))
time_sync a b d e false s w k =
    to _ a.first e.first a.calls a.calls e.calls (k.first ∙ w.first ∙ s.first) (k.calls ∙ w.calls ∙ s.calls)
    (none Same (λ c. refl) a.first a.calls)

-- no cut is made
pub time_uncut : (to : ℕ) (a : MemDiskView) → Between (Cut to) a a
time_uncut to a = none (Cut to) (cut_same to) a.first a.calls

-- after a sync nothing but what a read gives
pub durable : (a b d e : MemDiskView) → Keeps a b → Synced b d → Keeps d e → Only a.bytes (IsImage (replay e.first e.calls))
durable a b d e s w k c now =
    let same : replay e.first e.calls ≡ after Sync (replay a.first a.calls) =
    ap (λ (x : List ℕ). replay x e.calls) (k.first ∙ w.first ∙ s.first)
    ∙ ap (λ (l : List Call). replay a.first l) (k.calls ∙ w.noted ∙ ap (λ (l : List Call). l ++ Sync ∷ []) s.calls)
    ∙ replay_more (at_first a.first) a.calls Sync in
    let image : c ≡ (replay a.first a.calls).seen = subst (λ (x : Now). IsImage x c) same now in
    image ∙ sym a.replayed

pub durable_at : {T F : Type 0} (P : Type 0) (r : Result T F) (done : Bool) (a b d e : MemDiskView) → OnOk r (P × IsTrue done) → Keeps a b → MatchBool done (Synced b d) (Keeps b d) → Keeps d e → OnOk r (Only a.bytes (IsImage (replay e.first e.calls)))
durable_at P (Ok x) true a b d e ok s w k = durable a b d e s w k
durable_at P (Ok x) false a b d e ok s w k = absurd (cc)
durable_at P (Err x) done a b d e ok s w k = tt
