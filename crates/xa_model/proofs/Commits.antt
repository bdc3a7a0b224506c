-- One more committed branch: only the last writes of those that were committed before matter.
use Rattle.std.proofs.Common.{◌≡◌, ℕ, Bool, true, false, not, ◌||◌, cond, List, [], ◌∷◌, refl, ap, sym, ◌∙◌, arith}
use Rattle.std.specs.Prelude.{nat_lt}
use Rattle.std.specs.List.{AllByRecursion}
use Rattle.std.proofs.lemmas.Bool.Decides.{nat_tests}
use Rattle.xa_codes.specs.declared.write.Write.{Write}
use Rattle.xa_model.specs.Durable.{CommittedBranch, Pairwise, commits_before, insert, is_written_in, is_written, not_overwritten, with_writes, last_writes}
use Rattle.xa_model.proofs.Inserts.{all_imply}
use Rattle.xa_model.proofs.LastWrites.{last_written, last_are_last, last_same, last_all}
use Rattle.xa_model.proofs.Splits.{insert_front}

-- which keys are written with one more
pub swapped : (a b c : Bool) → (a || (b || c)) ≡ (b || (a || c))
swapped true true c = refl
swapped true false c = refl
swapped false true c = refl
swapped false false c = refl

written_by : (key : List ℕ) (c b : CommittedBranch) (bs rest : List CommittedBranch) (before : Bool) → is_written key rest ≡ (is_written_in key c.writes || is_written key bs)
    → is_written key (cond before (b ∷ rest) (c ∷ b ∷ bs)) ≡ (is_written_in key c.writes || (is_written_in key b.writes || is_written key bs))
written_by key c b bs rest true h = ap (λ w. is_written_in key b.writes || w) h ∙ swapped (is_written_in key b.writes) (is_written_in key c.writes) (is_written key bs)
written_by key c b bs rest false h = refl

insert_written : (key : List ℕ) (c : CommittedBranch) (bs : List CommittedBranch) → is_written key (insert commits_before c bs) ≡ (is_written_in key c.writes || is_written key bs)
insert_written key c [] = refl
insert_written key c (b ∷ bs) = written_by key c b bs (insert commits_before c bs) (commits_before b c) (insert_written key c bs)

same_written : (key : List ℕ) (c : CommittedBranch) (bs : List CommittedBranch) → is_written key (insert commits_before c (last_writes bs)) ≡ is_written key (insert commits_before c bs)
same_written key c bs = insert_written key c (last_writes bs) ∙ ap (λ w. is_written_in key c.writes || w) (last_written key bs) ∙ sym (insert_written key c bs)

-- what is left of writes, by branches that write the same keys
left_alike : (xs ys : List CommittedBranch) → ((key : List ℕ) → is_written key xs ≡ is_written key ys) → (ws : List Write) → not_overwritten xs ws ≡ not_overwritten ys ws
left_alike xs ys same [] = refl
left_alike xs ys same (w ∷ ws) = let rest : not_overwritten xs ws ≡ not_overwritten ys ws = left_alike xs ys same ws in rw (same w.key, rest) refl

-- by branches and then by more
left_twice_by : (xs ys : List CommittedBranch) (w : Write) (ws : List Write) (c d : Bool) → is_written w.key xs ≡ c → is_written w.key ys ≡ d → (c ≡ true → d ≡ true)
    → not_overwritten ys (not_overwritten xs ws) ≡ not_overwritten ys ws → not_overwritten ys (cond (not c) (w ∷ not_overwritten xs ws) (not_overwritten xs ws)) ≡ cond (not d) (w ∷ not_overwritten ys ws) (not_overwritten ys ws)
left_twice_by xs ys w ws true true e f more rest = rest
left_twice_by xs ys w ws true false e f more rest = absurd (cc (more refl))
left_twice_by xs ys w ws false true e f more rest = rw f rest
left_twice_by xs ys w ws false false e f more rest = rw (f, rest) refl

left_twice : (xs ys : List CommittedBranch) → ((key : List ℕ) → is_written key xs ≡ true → is_written key ys ≡ true) → (ws : List Write) → not_overwritten ys (not_overwritten xs ws) ≡ not_overwritten ys ws
left_twice xs ys more [] = refl
left_twice xs ys more (w ∷ ws) = left_twice_by xs ys w ws (is_written w.key xs) (is_written w.key ys) refl refl (more w.key) (left_twice xs ys more ws)

or_right : (a b : Bool) → b ≡ true → (a || b) ≡ true
or_right true b e = refl
or_right false b e = e

still_written : (c : CommittedBranch) (bs : List CommittedBranch) (key : List ℕ) → is_written key bs ≡ true → is_written key (insert commits_before c bs) ≡ true
still_written c bs key e = insert_written key c bs ∙ or_right (is_written_in key c.writes) (is_written key bs) e

-- a branch before the new one, of which something is left or nothing
insert_with : (c : CommittedBranch) (t : ℕ) (ws : List Write) (bs : List CommittedBranch) → nat_lt t c.timestamp ≡ true
    → last_writes (insert commits_before c (with_writes t ws bs)) ≡ with_writes t (not_overwritten (insert commits_before c bs) ws) (last_writes (insert commits_before c bs))
insert_with c t [] bs less = refl
insert_with c t (w ∷ ws) bs less = rw less refl

behind : (b c : ℕ) → nat_lt b c ≡ false → (u : ℕ) → nat_lt b u ≡ true → nat_lt u c ≡ false
behind b c e u f = grind (arith, nat_tests)

-- the new one before all
commit_first : (c b : CommittedBranch) (later : List CommittedBranch) → commits_before b c ≡ false → AllByRecursion (λ u. commits_before b u ≡ true) later
    → last_writes (insert commits_before c (last_writes (b ∷ later))) ≡ last_writes (c ∷ b ∷ later)
commit_first c b later e all =
    let bs = b ∷ later in
    let none : AllByRecursion (λ u. nat_lt u.timestamp c.timestamp ≡ false) bs = (e, all_imply (λ u. commits_before b u ≡ true) (λ u. nat_lt u.timestamp c.timestamp ≡ false) (λ u f. behind b.timestamp c.timestamp e u.timestamp f) later all) in
    let front : insert commits_before c (last_writes bs) ≡ c ∷ last_writes bs = insert_front commits_before c (last_writes bs) (last_all (λ u. nat_lt u c.timestamp ≡ false) bs none) in
    let twice : last_writes (last_writes bs) ≡ last_writes bs = last_same (last_writes bs) (last_are_last bs) in
    let left : not_overwritten (last_writes bs) c.writes ≡ not_overwritten bs c.writes = left_alike (last_writes bs) bs (λ key. last_written key bs) c.writes in
    ap last_writes front ∙ ap (λ l. with_writes c.timestamp (not_overwritten (last_writes bs) c.writes) l) twice ∙ ap (λ l. with_writes c.timestamp l (last_writes bs)) left

commit_by : (c b : CommittedBranch) (later : List CommittedBranch) (before : Bool) → commits_before b c ≡ before → AllByRecursion (λ u. commits_before b u ≡ true) later
    → last_writes (insert commits_before c (last_writes later)) ≡ last_writes (insert commits_before c later)
    → last_writes (insert commits_before c (last_writes (b ∷ later))) ≡ last_writes (cond before (b ∷ insert commits_before c later) (c ∷ b ∷ later))
commit_by c b later true e all rest =
    let left : not_overwritten (insert commits_before c (last_writes later)) (not_overwritten later b.writes) ≡ not_overwritten (insert commits_before c later) b.writes =
    left_alike (insert commits_before c (last_writes later)) (insert commits_before c later) (λ key. same_written key c later) (not_overwritten later b.writes)
    ∙ left_twice later (insert commits_before c later) (still_written c later) b.writes in
    insert_with c b.timestamp (not_overwritten later b.writes) (last_writes later) e
    ∙ ap (λ l. with_writes b.timestamp l (last_writes (insert commits_before c (last_writes later)))) left
    ∙ ap (λ l. with_writes b.timestamp (not_overwritten (insert commits_before c later) b.writes) l) rest
commit_by c b later false e all rest = commit_first c b later e all

pub commit_last : (c : CommittedBranch) (bs : List CommittedBranch) → Pairwise commits_before bs → last_writes (insert commits_before c (last_writes bs)) ≡ last_writes (insert commits_before c bs)
commit_last c [] h = refl
commit_last c (b ∷ later) h = commit_by c b later (commits_before b c) refl h.0 (commit_last c later h.1)

-- a branch without writes, which leaves the others as they are

nothing_by : (t : ℕ) (b : CommittedBranch) (later : List CommittedBranch) (before : Bool)
    → last_writes (insert commits_before (record { timestamp = t; writes = [] }) later) ≡ last_writes later
    → last_writes (cond before (b ∷ insert commits_before (record { timestamp = t; writes = [] }) later) (record { timestamp = t; writes = [] } ∷ b ∷ later)) ≡ last_writes (b ∷ later)
nothing_by t b later true rest =
    let c : CommittedBranch = record { timestamp = t; writes = [] } in
    ap (λ l. with_writes b.timestamp l (last_writes (insert commits_before c later))) (left_alike (insert commits_before c later) later (λ key. insert_written key c later) b.writes)
    ∙ ap (λ l. with_writes b.timestamp (not_overwritten later b.writes) l) rest
nothing_by t b later false rest = refl

pub commit_nothing : (t : ℕ) (bs : List CommittedBranch) → last_writes (insert commits_before (record { timestamp = t; writes = [] }) bs) ≡ last_writes bs
commit_nothing t [] = refl
commit_nothing t (b ∷ later) = nothing_by t b later (commits_before b (record { timestamp = t; writes = [] })) (commit_nothing t later)
