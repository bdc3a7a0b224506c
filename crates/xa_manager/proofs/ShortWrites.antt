-- The values and the keys of what lasts are within their limits.
use Rattle.std.proofs.Common.{◌≡◌, ℕ, List, [], ◌∷◌, ◌++◌, map, subst}
use Rattle.std.specs.List.{AllByRecursion}
use Rattle.xa_codes.specs.declared.write.Write.{Write}
use Rattle.xa_limits.specs.declared.TheConstants.{MOST_VALUE}
use Rattle.xa_record.specs.declared.record.Record.{Record}
use Rattle.xa_record.specs.Limits.{IsRecord, IsWrite, AreWrites}
use Rattle.mv_rules.specs.Within.{IsKey, AreShort, HaveKeys}
use Rattle.xa_model.specs.Durable.{Durable, CommittedBranch, PreparedBranch}
use Rattle.xa_model.specs.Fold.{snapshot, base, held, known}
use Rattle.xa_manager.specs.Rebuilding.{CommittedAreShort, PreparedAreShort, PreparedHaveKeys}

writes_short : (ws : List Write) → AllByRecursion IsWrite ws → AreShort MOST_VALUE ws
writes_short [] h = tt
writes_short (w ∷ ws) h = (h.0.value, writes_short ws h.1)

writes_keys : (ws : List Write) → AllByRecursion IsWrite ws → AllByRecursion (λ w. IsKey w.key) ws
writes_keys [] h = tt
writes_keys (w ∷ ws) h = ((h.0.some, h.0.short), writes_keys ws h.1)

have_keys : (ws : List Write) → AreWrites ws → HaveKeys ws
have_keys ws h = (h.few, writes_keys ws h.each)

both_limited : (rs ss : List Record) → AllByRecursion IsRecord (rs ++ ss) → AllByRecursion IsRecord rs × AllByRecursion IsRecord ss
both_limited [] ss h = (tt, h)
both_limited (r ∷ rs) ss h = let rest = both_limited rs ss h.1 in ((h.0, rest.0), rest.1)

committed_short : (bs : List CommittedBranch) → AllByRecursion IsRecord (map base bs) → CommittedAreShort bs
committed_short [] h = tt
committed_short (b ∷ bs) h = (writes_short b.writes h.0.writes.each, committed_short bs h.1)

prepared_short : (ps : List PreparedBranch) → AllByRecursion IsRecord (map held ps) → PreparedAreShort ps
prepared_short [] h = tt
prepared_short (p ∷ ps) h = (writes_short p.writes h.0.stamped.writes.each, prepared_short ps h.1)

prepared_keys : (ps : List PreparedBranch) → AllByRecursion IsRecord (map held ps) → PreparedHaveKeys ps
prepared_keys [] h = tt
prepared_keys (p ∷ ps) h = (have_keys p.writes h.0.stamped.writes, prepared_keys ps h.1)

pub snapshot_keys : (d : Durable) (boot : ℕ) → AllByRecursion IsRecord (snapshot d boot) → PreparedHaveKeys d.prepared
snapshot_keys d boot h =
    let first = both_limited (map base d.committed) (map held d.prepared ++ map known d.decided) h.1 in
    let second = both_limited (map held d.prepared) (map known d.decided) first.1 in
    prepared_keys d.prepared second.0

pub snapshot_short : (d : Durable) (boot : ℕ) → AllByRecursion IsRecord (snapshot d boot) → CommittedAreShort d.committed × PreparedAreShort d.prepared
snapshot_short d boot h =
    let first = both_limited (map base d.committed) (map held d.prepared ++ map known d.decided) h.1 in
    let second = both_limited (map held d.prepared) (map known d.decided) first.1 in
    (committed_short d.committed first.0, prepared_short d.prepared second.0)

pub committed_next : (bs cs : List CommittedBranch) (b : CommittedBranch) → bs ≡ b ∷ cs → CommittedAreShort bs → AreShort MOST_VALUE b.writes × CommittedAreShort cs
committed_next bs cs b e h = subst (λ (l : List CommittedBranch). CommittedAreShort l) e h

pub prepared_next : (ps qs : List PreparedBranch) (p : PreparedBranch) → ps ≡ p ∷ qs → PreparedAreShort ps → AreShort MOST_VALUE p.writes × PreparedAreShort qs
prepared_next ps qs p e h = subst (λ (l : List PreparedBranch). PreparedAreShort l) e h
