-- What a crash leaves that keeps some bytes written since the last sync is one of the images that a crash may leave.
use Rattle.std.proofs.Common.{◌≡◌, ℕ, zero, suc, ◌-◌, ◌≤◌, ◌<◌, List, [], ◌∷◌, ◌++◌, length, take, min, refl, sym, ◌∙◌, ap, subst, arith, Vec, Global, Result, Ok, Err, OnOk}
use Rattle.std.proofs.Math.Nat.{zero-sub}
use Rattle.std.proofs.lemmas.List.{take_all, take_min, length-take}
use Rattle.xa_disk.specs.Disk.{put, Torn}
use Rattle.xa_disk.specs.declared.call.Call.{Call}
use Rattle.xa_disk.specs.declared.call.Call.TheVariants.{Write, Sync}
use Rattle.xa_disk.specs.Replay.{Now, after, at_first, replay_from, replay, Reaches, IsImage}
use Rattle.xa_disk.specs.Images.{torn_same, put_torn}
use Rattle.xa_disk.specs.MemDiskView.{MemDiskView}
use Rattle.xa_disk.specs.Memory.{Crashes, CrashesKeeping}
use Rattle.xa_disk.specs.Keeping.{unsynced, written_bytes, put_front, put_fronts, kept}

-- the ranges of writes after those that were pending, the newest first
abbrev ranges : List Call → List (ℕ × ℕ) → List (ℕ × ℕ)
ranges [] pending = pending
ranges (Write at bytes ∷ calls) pending = ranges calls ((at, length bytes.items) ∷ pending)
ranges (Sync ∷ calls) pending = ranges calls pending

-- all of the writes
abbrev puts : List ℕ → List Call → List ℕ
puts old [] = old
puts old (Write at bytes ∷ calls) = puts (put old at bytes.items) calls
puts old (Sync ∷ calls) = puts old calls

torn_wider : (at n m : ℕ) (old new : List ℕ) → n ≤ m → Torn at n old new → Torn at m old new
torn_wider at n m old new le t = record {
  no_shorter = t.no_shorter;
  no_longer = omega (arith, t.no_longer);
  below = t.below;
  above = λ i l b. t.above i l (omega arith);
}

front_torn : (k : ℕ) (old : List ℕ) (at : ℕ) (bytes : List ℕ) → Torn at (length bytes) old (put_front k old at bytes)
front_torn zero old at bytes = torn_same at (length bytes) old
front_torn (suc k) old at bytes =
    torn_wider at (length (take (suc k) bytes)) (length bytes) old (put old at (take (suc k) bytes))
    (omega (arith, length-take (suc k) bytes)) (put_torn old at (take (suc k) bytes))

reaches_fronts : (stable : List ℕ) (calls : List Call) (k : ℕ) (pending : List (ℕ × ℕ)) (c : List ℕ)
    → Reaches stable pending c → Reaches stable (ranges calls pending) (put_fronts k c calls)
reaches_fronts stable [] k pending c r = r
reaches_fronts stable (Write at bytes ∷ calls) k pending c r =
    reaches_fronts stable calls (k - length bytes.items) ((at, length bytes.items) ∷ pending)
    (put_front k c at bytes.items) (c, r, front_torn k c at bytes.items)
reaches_fronts stable (Sync ∷ calls) k pending c r = reaches_fronts stable calls k pending c r

ranges_more : (calls : List Call) (pending : List (ℕ × ℕ)) (at : ℕ) (bytes : Vec ℕ Global)
    → ranges (calls ++ Write at bytes ∷ []) pending ≡ (at, length bytes.items) ∷ ranges calls pending
ranges_more [] pending at bytes = refl
ranges_more (Write a b ∷ calls) pending at bytes = ranges_more calls ((a, length b.items) ∷ pending) at bytes
ranges_more (Sync ∷ calls) pending at bytes = ranges_more calls pending at bytes

pending_is : (s : Now) (since calls : List Call)
    → s.pending ≡ ranges since [] → (replay_from s calls).pending ≡ ranges (unsynced since calls) []
pending_is s since [] is = is
pending_is s since (Write at bytes ∷ calls) is =
    pending_is (after (Write at bytes) s) (since ++ Write at bytes ∷ []) calls
    (ap (λ (p : List (ℕ × ℕ)). (at, length bytes.items) ∷ p) is ∙ sym (ranges_more since [] at bytes))
pending_is s since (Sync ∷ calls) is = pending_is (after Sync s) [] calls refl

pub kept_is_image : (first : List ℕ) (calls : List Call) (k : ℕ) → IsImage (replay first calls) (kept first calls k)
kept_is_image first calls k =
    subst (λ (p : List (ℕ × ℕ)). Reaches (replay first calls).stable p (kept first calls k))
    (sym (pending_is (at_first first) [] calls refl))
    (reaches_fronts (replay first calls).stable (unsynced [] calls) k [] (replay first calls).stable refl)

no_fronts : (old : List ℕ) (calls : List Call) → put_fronts 0 old calls ≡ old
no_fronts old [] = refl
no_fronts old (Write at bytes ∷ calls) =
    ap (λ (n : ℕ). put_fronts n old calls) (zero-sub (length bytes.items)) ∙ no_fronts old calls
no_fronts old (Sync ∷ calls) = no_fronts old calls

-- where no byte is to stay, a crash leaves what was stable
pub none_kept : (first : List ℕ) (calls : List Call) → kept first calls 0 ≡ (replay first calls).stable
none_kept first calls = no_fronts (replay first calls).stable (unsynced [] calls)

pub front_at : (k : ℕ) (old : List ℕ) (at : ℕ) (bytes : List ℕ) (count : ℕ)
    → (k ≡ 0 → ⊥) → count ≡ min k (length bytes) → put old at (take count bytes) ≡ put_front k old at bytes
front_at zero old at bytes count some is = absurd (some refl)
front_at (suc k) old at bytes count some is =
    ap (λ (n : ℕ). put old at (take n bytes)) is ∙ ap (λ (b : List ℕ). put old at b) (take_min (suc k) bytes)

whole_front : (k : ℕ) (old : List ℕ) (at : ℕ) (bytes : List ℕ) → length bytes < k → put_front k old at bytes ≡ put old at bytes
whole_front zero old at bytes lt = absurd (omega arith)
whole_front (suc k) old at bytes lt = ap (λ (b : List ℕ). put old at b) (take_all (suc k) bytes (omega arith))

whole_fronts : (calls : List Call) (k : ℕ) (old : List ℕ) → written_bytes calls < k → put_fronts k old calls ≡ puts old calls
whole_fronts [] k old lt = refl
whole_fronts (Write at bytes ∷ calls) k old lt =
    ap (λ (c : List ℕ). put_fronts (k - length bytes.items) c calls) (whole_front k old at bytes.items (omega arith))
    ∙ whole_fronts calls (k - length bytes.items) (put old at bytes.items) (omega arith)
whole_fronts (Sync ∷ calls) k old lt = whole_fronts calls k old lt

puts_more : (calls : List Call) (old : List ℕ) (at : ℕ) (bytes : Vec ℕ Global)
    → puts old (calls ++ Write at bytes ∷ []) ≡ put (puts old calls) at bytes.items
puts_more [] old at bytes = refl
puts_more (Write a b ∷ calls) old at bytes = puts_more calls (put old a b.items) at bytes
puts_more (Sync ∷ calls) old at bytes = puts_more calls old at bytes

seen_is : (s : Now) (since calls : List Call)
    → s.seen ≡ puts s.stable since
    → (replay_from s calls).seen ≡ puts (replay_from s calls).stable (unsynced since calls)
seen_is s since [] is = is
seen_is s since (Write at bytes ∷ calls) is =
    seen_is (after (Write at bytes) s) (since ++ Write at bytes ∷ []) calls
    (ap (λ (b : List ℕ). put b at bytes.items) is ∙ sym (puts_more since s.stable at bytes))
seen_is s since (Sync ∷ calls) is = seen_is (after Sync s) [] calls refl

-- where more are to stay than were written, it leaves what a read gives
pub all_kept : (first : List ℕ) (calls : List Call) (k : ℕ)
    → written_bytes (unsynced [] calls) < k → kept first calls k ≡ (replay first calls).seen
all_kept first calls k lt =
    whole_fronts (unsynced [] calls) k (replay first calls).stable lt ∙ sym (seen_is (at_first first) [] calls refl)

pub unsynced_write : (since calls : List Call) (at : ℕ) (bytes : Vec ℕ Global)
    → unsynced since (calls ++ Write at bytes ∷ []) ≡ unsynced since calls ++ Write at bytes ∷ []
unsynced_write since [] at bytes = refl
unsynced_write since (Write a b ∷ calls) at bytes = unsynced_write (since ++ Write a b ∷ []) calls at bytes
unsynced_write since (Sync ∷ calls) at bytes = unsynced_write [] calls at bytes

pub unsynced_sync : (since calls : List Call) → unsynced since (calls ++ Sync ∷ []) ≡ []
unsynced_sync since [] = refl
unsynced_sync since (Write a b ∷ calls) = unsynced_sync (since ++ Write a b ∷ []) calls
unsynced_sync since (Sync ∷ calls) = unsynced_sync [] calls

pub crashed : {T E : Type 0} (r : Result T E) (old new : MemDiskView) → OnOk r (CrashesKeeping 0 old new) → OnOk r (Crashes old new)
crashed (Ok x) old new k = record {
  seen = k.seen ∙ none_kept old.first old.calls;
  left = k.left;
  durable = k.durable;
  plans = k.plans;
  failures = k.failures;
  counts = k.counts;
}
crashed (Err x) old new k = tt
