-- A disk's record of calls, one call more.
use Rattle.std.proofs.Common.{◌≡◌, ◌≢◌, ℕ, List, [], ◌∷◌, ◌++◌, refl, sym, ◌∙◌, ap, Option, Some, None, Vec, Global, Result, Ok, Err, OnOk, OnErr}
use Rattle.xa_disk.specs.declared.call.Call.{Call}
use Rattle.xa_disk.specs.declared.call.Call.TheVariants.{Write, Sync}
use Rattle.xa_disk.specs.Disk.{put}
use Rattle.xa_disk.specs.Replay.{first_of, replay, replay_more, at_first, Now}

-- once the first bytes are kept, a write doesn't change them
pub first_stays : (first : Option (Vec ℕ Global)) (old new : List ℕ) → first ≢ None → first_of first new ≡ first_of first old
first_stays None old new kept = absurd (kept refl)
first_stays (Some v) old new kept = refl

pub replay_sync : (first : List ℕ) (calls calls' : List Call) → calls' ≡ calls ++ Sync ∷ [] → (replay first calls').seen ≡ (replay first calls).seen
replay_sync first calls calls' is = ap (λ (l : List Call). (replay first l).seen) is ∙ ap (λ (s : Now). s.seen) (replay_more (at_first first) calls Sync)

pub replay_write : (first : List ℕ) (calls calls' : List Call) (at : ℕ) (v : Vec ℕ Global) → calls' ≡ calls ++ Write at v ∷ [] → (replay first calls').seen ≡ put (replay first calls).seen at v.items
replay_write first calls calls' at v is = ap (λ (l : List Call). (replay first l).seen) is ∙ ap (λ (s : Now). s.seen) (replay_more (at_first first) calls (Write at v))

pub synced : {T E : Type 0} (r : Result T E) (first bytes : List ℕ) (calls calls' : List Call) → OnOk r (calls' ≡ calls ++ Sync ∷ []) → OnErr r (calls' ≡ calls) → bytes ≡ (replay first calls).seen → bytes ≡ (replay first calls').seen
synced (Ok x) first bytes calls calls' ok err is = is ∙ sym (replay_sync first calls calls' ok)
synced (Err x) first bytes calls calls' ok err is = is ∙ ap (λ (l : List Call). (replay first l).seen) (sym err)

pub written : (first : Option (Vec ℕ Global)) (old new bytes : List ℕ) (calls calls' : List Call) (at : ℕ) (v : Vec ℕ Global) → first ≢ None → v.items ≡ bytes → calls' ≡ calls ++ Write at v ∷ []
    → old ≡ (replay (first_of first old) calls).seen → new ≡ put old at bytes → new ≡ (replay (first_of first new) calls').seen
written first old new bytes calls calls' at v kept text more before is =
    is
    ∙ (λ i. put (before i) at (sym text i))
    ∙ sym (replay_write (first_of first old) calls calls' at v more)
    ∙ ap (λ (l : List ℕ). (replay l calls').seen) (sym (first_stays first old new kept))
