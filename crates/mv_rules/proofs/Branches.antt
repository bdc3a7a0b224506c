-- The flat list of the branches' writes, after a change of one known branch.
use Rattle.std.proofs.Common.{◌≡◌, ℕ, ◌<◌, ◌≤◌, Bool, true, false, cond, ◌==◌, List, [], ◌∷◌, ◌++◌, Option, Some, None, refl, ap, sym, ◌∙◌, subst, arith}
use Rattle.std.specs.List.{AllByRecursion as Each}
use Rattle.std.proofs.lemmas.List.{map-append}
use Rattle.mv_chain.specs.declared.fate.Fate.{Fate}
use Rattle.mv_chain.specs.declared.fate.Fate.TheVariants.{Committed as kept, RolledBack as gone}
use Rattle.mv_chain.specs.Accesses.{Written, deciding, decided}
use Rattle.xa_xid.specs.Triple.{Triple}
use Rattle.xa_model.specs.State.{Branch, Operation, Got, Walked, Wrote, is_known_as, known_of, change, without}
use Rattle.xa_model.specs.Phases.{as_committed}
use Rattle.xa_model.specs.Data.{having_done}
use Rattle.xa_model.specs.Invariants.Sound.{Descends}
use Rattle.xa_model.proofs.Times.{known_below}
use Rattle.mv_rules.specs.Accesses.{wrote}
use Rattle.mv_rules.specs.Ties.{fate_of, writes_by, writes_one, writes_in}
use Rattle.mv_rules.proofs.Moved.{IsSameWrites, same_itself, same_then, same_after, same_past, same_without}
use Rattle.mv_rules.proofs.Tests.{time_itself, not_same, not_same_below}

-- a change that writes nothing
unwritten_by : (f : Branch → Branch) (b : Branch) (bs rest : List Branch) (c : Bool) → writes_one (f b) ≡ writes_one b → writes_in rest ≡ writes_in bs → writes_in (cond c (f b ∷ bs) (b ∷ rest)) ≡ writes_in (b ∷ bs)
unwritten_by f b bs rest true h ih = ap (λ (ws : List Written). ws ++ writes_in bs) h
unwritten_by f b bs rest false h ih = ap (λ (ws : List Written). writes_one b ++ ws) ih

pub unwritten : (p : Branch → Bool) (f : Branch → Branch) → ((b : Branch) → writes_one (f b) ≡ writes_one b) → (bs : List Branch) → writes_in (change p f bs) ≡ writes_in bs
unwritten p f h [] = refl
unwritten p f h (b ∷ bs) = unwritten_by f b bs (change p f bs) (p b) (h b) (unwritten p f h bs)

-- the writes of a branch with another timestamp
apart : (t u : ℕ) (fate : Option Fate) (ops : List Operation) → (t ≡ u → ⊥) → Each (λ (w : Written). t ≡ w.timestamp → ⊥) (writes_by u fate ops)
apart t u fate [] ne = tt
apart t u fate (Got key answer from ∷ older) ne = apart t u fate older ne
apart t u fate (Walked range found ∷ older) ne = apart t u fate older ne
apart t u fate (Wrote key value ∷ older) ne = (ne, apart t u fate older ne)

above : (t u : ℕ) → t < u → t ≡ u → ⊥
above t u lt e = omega (arith, lt, e)

-- Put: the new write may stand before all others

wrote_by : (xid : Triple) (b c : Branch) (key : List ℕ) (value : Option (List ℕ)) (bs : List Branch) (is : Bool) → is_known_as xid c ≡ is → cond is (Some c) (known_of bs xid) ≡ Some b → fate_of b.phase ≡ None
    → (known_of bs xid ≡ Some b → b.timestamp < c.timestamp)
    → (known_of bs xid ≡ Some b → IsSameWrites (wrote b.timestamp key value ∷ writes_in bs) (writes_in (change (is_known_as xid) (having_done (Wrote key value)) bs)))
    → IsSameWrites (wrote b.timestamp key value ∷ writes_in (c ∷ bs)) (writes_in (cond is (having_done (Wrote key value) c ∷ bs) (c ∷ change (is_known_as xid) (having_done (Wrote key value)) bs)))
wrote_by xid b c key value bs true is found working under ih =
    let same : c ≡ b = cc found in
    let phase : fate_of c.phase ≡ None = subst (λ (x : Branch). fate_of x.phase ≡ None) (sym same) working in
    subst (λ (x : Branch). IsSameWrites (wrote x.timestamp key value ∷ writes_in (c ∷ bs)) (writes_in (having_done (Wrote key value) c ∷ bs))) same
    (here (fate_of c.phase) phase)
  where
    here : (fate : Option Fate) → fate ≡ None → IsSameWrites (wrote c.timestamp key value ∷ (writes_by c.timestamp fate c.operations ++ writes_in bs)) ((record { timestamp = c.timestamp; key = key; value = value; fate = fate } ∷ writes_by c.timestamp fate c.operations) ++ writes_in bs)
    here None e = same_itself (wrote c.timestamp key value ∷ (writes_by c.timestamp None c.operations ++ writes_in bs))
    here (Some f) e = absurd (cc e)
wrote_by xid b c key value bs false is found working under ih =
    same_then (wrote b.timestamp key value ∷ (writes_one c ++ writes_in bs)) (writes_one c ++ (wrote b.timestamp key value ∷ writes_in bs)) (writes_one c ++ writes_in (change (is_known_as xid) (having_done (Wrote key value)) bs))
    (same_past (wrote b.timestamp key value) (writes_one c) (writes_in bs) (apart b.timestamp c.timestamp (fate_of c.phase) c.operations (above b.timestamp c.timestamp (under found))))
    (same_after (writes_one c) (wrote b.timestamp key value ∷ writes_in bs) (writes_in (change (is_known_as xid) (having_done (Wrote key value)) bs)) (ih found))

pub wrote_first : (xid : Triple) (b : Branch) (key : List ℕ) (value : Option (List ℕ)) (limit : ℕ) (bs : List Branch) → Descends limit bs → known_of bs xid ≡ Some b → fate_of b.phase ≡ None
    → IsSameWrites (wrote b.timestamp key value ∷ writes_in bs) (writes_in (change (is_known_as xid) (having_done (Wrote key value)) bs))
wrote_first xid b key value limit [] h found working = absurd (cc found)
wrote_first xid b key value limit (c ∷ bs) h found working =
    wrote_by xid b c key value bs (is_known_as xid c) refl found working (λ e. known_below xid b c.timestamp bs h.2 e) (λ e. wrote_first xid b key value c.timestamp bs h.2 e working)

-- a fate is decided

decided_other : (t u : ℕ) (f : Fate) (fate : Option Fate) (ops : List Operation) → (u == t) ≡ false → decided t f (writes_by u fate ops) ≡ writes_by u fate ops
decided_other t u f fate [] ne = refl
decided_other t u f fate (Got key answer from ∷ older) ne = decided_other t u f fate older ne
decided_other t u f fate (Walked range found ∷ older) ne = decided_other t u f fate older ne
decided_other t u f fate (Wrote key value ∷ older) ne = rw ne (ap (λ (ws : List Written). record { timestamp = u; key = key; value = value; fate = fate } ∷ ws) (decided_other t u f fate older ne))

decided_own : (t : ℕ) (f : Fate) (fate : Option Fate) (ops : List Operation) → (t == t) ≡ true → decided t f (writes_by t fate ops) ≡ writes_by t (Some f) ops
decided_own t f fate [] e = refl
decided_own t f fate (Got key answer from ∷ older) e = decided_own t f fate older e
decided_own t f fate (Walked range found ∷ older) e = decided_own t f fate older e
decided_own t f fate (Wrote key value ∷ older) e = rw e (ap (λ (ws : List Written). record { timestamp = t; key = key; value = value; fate = Some f } ∷ ws) (decided_own t f fate older e))

decided_below : (t limit : ℕ) (f : Fate) (bs : List Branch) → Descends limit bs → limit ≤ t → decided t f (writes_in bs) ≡ writes_in bs
decided_below t limit f [] h le = refl
decided_below t limit f (b ∷ bs) h le =
    map-append (deciding t f) (writes_one b) (writes_in bs)
    ∙ ap (λ (ws : List Written). ws ++ decided t f (writes_in bs)) (decided_other t b.timestamp f (fate_of b.phase) b.operations (not_same_below t b.timestamp (omega (arith, h.1))))
    ∙ ap (λ (ws : List Written). writes_one b ++ ws) (decided_below t b.timestamp f bs h.2 (omega (arith, h.1)))

committed_by : (xid : Triple) (b c : Branch) (bs : List Branch) (is : Bool) → is_known_as xid c ≡ is → cond is (Some c) (known_of bs xid) ≡ Some b → Descends c.timestamp bs → (known_of bs xid ≡ Some b → b.timestamp < c.timestamp)
    → (known_of bs xid ≡ Some b → decided b.timestamp kept (writes_in bs) ≡ writes_in (change (is_known_as xid) as_committed bs))
    → decided b.timestamp kept (writes_in (c ∷ bs)) ≡ writes_in (cond is (as_committed c ∷ bs) (c ∷ change (is_known_as xid) as_committed bs))
committed_by xid b c bs true is found h under ih =
    let same : c ≡ b = cc found in
    subst (λ (x : Branch). decided x.timestamp kept (writes_in (c ∷ bs)) ≡ writes_in (as_committed c ∷ bs)) same
    (map-append (deciding c.timestamp kept) (writes_one c) (writes_in bs)
    ∙ ap (λ (ws : List Written). ws ++ decided c.timestamp kept (writes_in bs)) (decided_own c.timestamp kept (fate_of c.phase) c.operations (time_itself c.timestamp))
    ∙ ap (λ (ws : List Written). writes_by c.timestamp (Some kept) c.operations ++ ws) (decided_below c.timestamp c.timestamp kept bs h (omega arith)))
committed_by xid b c bs false is found h under ih =
    map-append (deciding b.timestamp kept) (writes_one c) (writes_in bs)
    ∙ ap (λ (ws : List Written). ws ++ decided b.timestamp kept (writes_in bs)) (decided_other b.timestamp c.timestamp kept (fate_of c.phase) c.operations (not_same b.timestamp c.timestamp (under found)))
    ∙ ap (λ (ws : List Written). writes_one c ++ ws) (ih found)

pub committed_writes : (xid : Triple) (b : Branch) (limit : ℕ) (bs : List Branch) → Descends limit bs → known_of bs xid ≡ Some b → decided b.timestamp kept (writes_in bs) ≡ writes_in (change (is_known_as xid) as_committed bs)
committed_writes xid b limit [] h found = absurd (cc found)
committed_writes xid b limit (c ∷ bs) h found =
    committed_by xid b c bs (is_known_as xid c) refl found h.2 (λ e. known_below xid b c.timestamp bs h.2 e) (λ e. committed_writes xid b c.timestamp bs h.2 e)

-- Roll back: the writes may be left out

all_gone : (t : ℕ) (ops : List Operation) (ws : List Written) → IsSameWrites (writes_by t (Some gone) ops ++ ws) ws
all_gone t [] ws = same_itself ws
all_gone t (Got key answer from ∷ older) ws = all_gone t older ws
all_gone t (Walked range found ∷ older) ws = all_gone t older ws
all_gone t (Wrote key value ∷ older) ws =
    let w : Written = record { timestamp = t; key = key; value = value; fate = Some gone } in
    same_then (w ∷ (writes_by t (Some gone) older ++ ws)) (writes_by t (Some gone) older ++ ws) ws (same_without w (writes_by t (Some gone) older ++ ws) refl) (all_gone t older ws)

gone_by : (xid : Triple) (b c : Branch) (bs : List Branch) (is : Bool) → is_known_as xid c ≡ is → cond is (Some c) (known_of bs xid) ≡ Some b → Descends c.timestamp bs → (known_of bs xid ≡ Some b → b.timestamp < c.timestamp)
    → (known_of bs xid ≡ Some b → IsSameWrites (decided b.timestamp gone (writes_in bs)) (writes_in (without (is_known_as xid) bs)))
    → IsSameWrites (decided b.timestamp gone (writes_in (c ∷ bs))) (writes_in (cond is bs (c ∷ without (is_known_as xid) bs)))
gone_by xid b c bs true is found h under ih =
    let same : c ≡ b = cc found in
    let e : decided c.timestamp gone (writes_in (c ∷ bs)) ≡ writes_by c.timestamp (Some gone) c.operations ++ writes_in bs =
    map-append (deciding c.timestamp gone) (writes_one c) (writes_in bs)
    ∙ ap (λ (ws : List Written). ws ++ decided c.timestamp gone (writes_in bs)) (decided_own c.timestamp gone (fate_of c.phase) c.operations (time_itself c.timestamp))
    ∙ ap (λ (ws : List Written). writes_by c.timestamp (Some gone) c.operations ++ ws) (decided_below c.timestamp c.timestamp gone bs h (omega arith)) in
    subst (λ (x : Branch). IsSameWrites (decided x.timestamp gone (writes_in (c ∷ bs))) (writes_in bs)) same
    (subst (λ (ws : List Written). IsSameWrites ws (writes_in bs)) (sym e) (all_gone c.timestamp c.operations (writes_in bs)))
gone_by xid b c bs false is found h under ih =
    let e : decided b.timestamp gone (writes_in (c ∷ bs)) ≡ writes_one c ++ decided b.timestamp gone (writes_in bs) =
    map-append (deciding b.timestamp gone) (writes_one c) (writes_in bs)
    ∙ ap (λ (ws : List Written). ws ++ decided b.timestamp gone (writes_in bs)) (decided_other b.timestamp c.timestamp gone (fate_of c.phase) c.operations (not_same b.timestamp c.timestamp (under found))) in
    subst (λ (ws : List Written). IsSameWrites ws (writes_in (c ∷ without (is_known_as xid) bs))) (sym e)
    (same_after (writes_one c) (decided b.timestamp gone (writes_in bs)) (writes_in (without (is_known_as xid) bs)) (ih found))

pub gone_writes : (xid : Triple) (b : Branch) (limit : ℕ) (bs : List Branch) → Descends limit bs → known_of bs xid ≡ Some b → IsSameWrites (decided b.timestamp gone (writes_in bs)) (writes_in (without (is_known_as xid) bs))
gone_writes xid b limit [] h found = absurd (cc found)
gone_writes xid b limit (c ∷ bs) h found =
    gone_by xid b c bs (is_known_as xid c) refl found h.2 (λ e. known_below xid b c.timestamp bs h.2 e) (λ e. gone_writes xid b c.timestamp bs h.2 e)
