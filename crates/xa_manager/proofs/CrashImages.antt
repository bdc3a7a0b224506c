-- Which log two images have.
use Rattle.std.proofs.Common.{◌≡◌, ◌⊎◌, inl, inr, ⊎_elim, ℕ, ◌≤◌, ◌<◌, Bool, true, List, [], ◌++◌, length, take, sym, ◌∙◌, cond, None}
use Rattle.xa_log.specs.declared.format.Format.{Format}
use Rattle.xa_log.specs.Believed.Checkpoint.{LeavesOf, LeavesNone, LeavesSealed}
use Rattle.xa_log.specs.Believed.Group.{IsFirstPart}
use Rattle.xa_log.specs.Believed.Laws.{IsLogOf}
use Rattle.xa_log.specs.Believed.Pair.{generation, beats, logged_pair, pair_fault, Behind, IsCalm}
use Rattle.xa_log.proofs.Grouped.{beats_group}
use Rattle.xa_log.proofs.Pair.{beats_nil}
use Rattle.xa_log.proofs.Parts.{none_calm, none_of}
use Rattle.xa_log.proofs.Still.{fault_order, logged_order}
use Rattle.xa_log.proofs.Which.{behind_law, pair_law, seal_law}

-- an opening of the images of the current file and of the other one, in their order, finds these bodies
pub record AreFilesOf (most : ℕ) (first : Bool) (bodies : List (List ℕ)) (current other : List ℕ) : Type 0 where
  pub whole : pair_fault most (cond first current other) (cond first other current) ≡ None
  pub logged : logged_pair (cond first current other) (cond first other current) ≡ bodies

pub files_of_other : (most : ℕ) (first : Bool) (bodies stood : List (List ℕ)) (current other : List ℕ) → IsLogOf most bodies current
    → LeavesOf most stood other → IsCalm stood other → beats first bodies stood ≡ true → AreFilesOf most first bodies current other
files_of_other most first bodies stood current other l leaves calm wins =
    let it = pair_law most first bodies stood current other l leaves calm wins in
    record {
      whole = fault_order (λ (x : List ℕ). x) most first current other ∙ it.0;
      logged = sym (logged_order (λ (x : List ℕ). x) first current other) ∙ it.1;
    }

pub files_of_pair : (most : ℕ) (first : Bool) (bodies stood : List (List ℕ)) (current other : List ℕ) → IsLogOf most bodies current → length other ≤ most
    → Behind stood other → IsCalm stood other → beats first bodies stood ≡ true → AreFilesOf most first bodies current other
files_of_pair most first bodies stood current other l fits behind calm wins =
    files_of_other most first bodies stood current other l (behind_law most stood other fits behind) calm wins

-- the other file has a whole header and a length 0
pub files_of_none : (most : ℕ) (first : Bool) (format : Format) (bodies : List (List ℕ)) (current other : List ℕ) → IsLogOf most bodies current
    → LeavesNone most format other → AreFilesOf most first bodies current other
files_of_none most first format bodies current other l none =
    files_of_other most first bodies [] current other l (none_of format most [] other none) (none_calm format [] other none.front) (beats_nil first bodies)

-- the append of a group was lost
pub files_of_group : (most : ℕ) (first : Bool) (format : Format) (bodies group stood : List (List ℕ)) (current other : List ℕ)
    → length current ≤ most → (part : IsFirstPart format bodies group current) → length other ≤ most → Behind stood other → IsCalm stood other
    → beats first bodies stood ≡ true → AreFilesOf most first (bodies ++ take part.many group) current other
files_of_group most first format bodies group stood current other short part fits behind calm wins =
    files_of_pair most first (bodies ++ take part.many group) stood current other (record { format = format; fits = short; rests = part.rests; whole = part.whole }) fits behind calm
    (beats_group first bodies (take part.many group) stood wins)

-- a checkpoint was lost
pub files_of_seal : (most : ℕ) (first : Bool) (bodies fresh : List (List ℕ)) (current other : List ℕ) → IsLogOf most bodies current → LeavesSealed most fresh other
    → IsCalm fresh other → generation bodies < generation fresh
    → AreFilesOf most first bodies current other ⊎ AreFilesOf most first fresh current other
files_of_seal most first bodies fresh current other l leaves calm above =
    let it = seal_law most first bodies fresh current other l leaves calm above in
    let whole = fault_order (λ (x : List ℕ). x) most first current other ∙ it.0 in
    let order = sym (logged_order (λ (x : List ℕ). x) first current other) in
    ⊎_elim (λ is. inl (record { whole = whole; logged = order ∙ is })) (λ is. inr (record { whole = whole; logged = order ∙ is })) it.1
