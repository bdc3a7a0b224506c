-- Laws of the images that a crash of a disk in memory may leave, for the members of its trait, and of torn writes. All
-- of them are proved here.
use Rattle.std.specs.Prelude.{◌≡◌, ◌+◌, ◌≤◌, ℕ, List, [], ◌∷◌, length, refl}
use Rattle.std.proofs.Common.{arith, sym, subst}
use Rattle.std.proofs.lemmas.List.{take_all, places}
use Rattle.std.proofs.Common.{rules}
use Rattle.std.proofs.Common.{inl, inr}
use Rattle.xa_disk.specs.Disk.{put, Torn, Cut, AllOrNone}
use Rattle.xa_disk.specs.declared.call.Call.{Call}
use Rattle.xa_disk.specs.declared.call.Call.TheVariants.{Write, Sync}
use Rattle.xa_disk.specs.Replay.{Now, after, replay_from, at_first, replay, Reaches, IsImage, LeftSince}

-- what a torn write may leave: all as it was
pub torn_same : (at n : ℕ) (c : List ℕ) → Torn at n c c
torn_same at n c =
    record { no_shorter = omega arith; no_longer = omega arith; below = λ i l b. refl; above = λ i l b. refl }

-- or all of the write's effect
pub put_torn : (old : List ℕ) (at : ℕ) (bytes : List ℕ) → Torn at (length bytes) old (put old at bytes)
put_torn old at bytes = record {
  no_shorter = search (rules, places);
  no_longer = search (rules, places);
  below = λ i l b. search (rules, places);
  above = λ i l b. search (rules, places);
}

pub seen_stays : (s : Now) (calls : List Call) → IsImage s s.seen
    → IsImage (replay_from s calls) (replay_from s calls).seen
seen_stays s [] here = here
seen_stays s (Write at bytes ∷ calls) here =
    seen_stays (after (Write at bytes) s) calls (s.seen, here, put_torn s.seen at bytes.items)
seen_stays s (Sync ∷ calls) here = seen_stays (after Sync s) calls refl

pub seen_may_stay : (first : List ℕ) (calls : List Call) → IsImage (replay first calls) (replay first calls).seen
seen_may_stay first calls = seen_stays (at_first first) calls refl

pub counts_now : (first : List ℕ) (calls : List Call) (t : ℕ) (c : List ℕ)
    → t ≤ length calls → IsImage (replay first calls) c → LeftSince first calls t c
counts_now first calls t c le now =
    let all = sym (take_all (length calls) calls (omega arith)) in
    (length calls, le, omega arith, subst (λ l. IsImage (replay first l) c) all now)

pub only_now : (first : List ℕ) (calls : List Call) (c : List ℕ)
    → LeftSince first calls (length calls) c → IsImage (replay first calls) c
only_now first calls c left = subst (λ l. IsImage (replay first l) c) (take_all left.0 calls left.1) left.3

pub stays_of : (first : List ℕ) (calls : List Call) (bytes : List ℕ)
    → bytes ≡ (replay first calls).seen → IsImage (replay first calls) bytes
stays_of first calls bytes is = subst (λ b. IsImage (replay first calls) b) (sym is) (seen_may_stay first calls)

pub torn_by_nothing : (old : List ℕ) (at : ℕ) (bytes new : List ℕ) → new ≡ old → Torn at (length bytes) old new
torn_by_nothing old at bytes new is =
    subst (λ c. Torn at (length bytes) old c) (sym is) (torn_same at (length bytes) old)

pub all_or_none_torn : (old : List ℕ) (at : ℕ) (bytes new : List ℕ)
    → AllOrNone old at bytes new → Torn at (length bytes) old new
all_or_none_torn old at bytes new (inl is) = torn_by_nothing old at bytes new is
all_or_none_torn old at bytes new (inr is) =
    subst (λ c. Torn at (length bytes) old c) (sym is) (put_torn old at bytes)

-- what a cut may leave: all as it was
pub cut_same : (to : ℕ) (c : List ℕ) → Cut to c c
cut_same to c = (to + length c, omega arith, sym (take_all (to + length c) c (omega arith)))

reaches_stable : (stable : List ℕ) (pending : List (ℕ × ℕ)) → Reaches stable pending stable
reaches_stable stable [] = refl
reaches_stable stable (range ∷ earlier) = (stable, reaches_stable stable earlier, torn_same range.0 range.1 stable)

-- a crash may leave what was stable
pub stable_stays : (s : Now) → IsImage s s.stable
stable_stays s = reaches_stable s.stable s.pending
