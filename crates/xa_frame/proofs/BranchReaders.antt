-- A known branch as a field: its state, its counts, and all of it.
use Rattle.std.proofs.Common.{◌≡◌, ℕ, ℤ, ◌^◌, ◌<◌, List, refl}
use Rattle.std.specs.Int.{w16, w64, to_be_bytes}
use Rattle.std.specs.Prelude.{FitsSigned}
use Rattle.std.specs.Int.{w32}
use Rattle.xa_xid.specs.Triple.{Triple, IsWithinLimits}
use Rattle.xa_bytes.proofs.Digits.{wide16}
use Rattle.xa_frame.specs.declared.known_branch.AssociationCounts.{AssociationCounts}
use Rattle.xa_frame.specs.declared.known_branch.BranchState.{BranchState}
use Rattle.xa_frame.specs.declared.known_branch.BranchState.TheVariants as state
use Rattle.xa_frame.specs.declared.known_branch.KnownBranch.{KnownBranch}
use Rattle.xa_frame.specs.Limits.{HoldsCounts, HoldsBranch}
use Rattle.xa_frame.specs.Spelling.{state_byte, state_bytes, states, state_numbered, counts_bytes, branch_bytes}
use Rattle.xa_frame.specs.Faults.{After, after_bytes, after_state, after_counts, after_branch}
use Rattle.xa_frame.specs.Reading.{Reads, number_at, name_at, both_at, field_as, code_at, state_at, counts_of, counts_at, branch_of, branch_at}
use Rattle.xa_frame.proofs.Digits.{number_takes, number_again, number_fault}
use Rattle.xa_frame.proofs.Readers.{IsField, number64, name, both, as_made, code, by_number}

number16 : IsField ℕ (number_at w16) (to_be_bytes w16) (λ n. n < 2 ^ 16) (after_bytes 2)
number16 = record { takes = number_takes w16 (2 ^ 16) wide16; again = number_again w16 (2 ^ 16) wide16; fault = number_fault w16 }

standing : IsField BranchState state_at state_bytes (λ s. Unit {0}) after_state
unfolding state_at
standing = by_number state_byte states (elim [ state.Working ↦ refl | state.Prepared ↦ refl | state.Committed ↦ refl | state.RolledBack ↦ refl ])

abbrev counts_parts : AssociationCounts → ℕ × (ℕ × ℕ)
counts_parts c = (c.active, (c.suspended, c.loose))

abbrev fit_counts : ℕ × (ℕ × ℕ) → Type 0
fit_counts x = (x.0 < 2 ^ 16) × ((x.1.0 < 2 ^ 16) × (x.1.1 < 2 ^ 16))

-- the same facts, as one record
pub other_facts : {A : Type 0} {at : Reads A} {spell : A → List ℕ} {fits others : A → Type 0} {after : After} → IsField A at spell fits after → ((x : A) → fits x → others x) → ((x : A) → others x → fits x)
    → IsField A at spell others after
other_facts F there back = record {
  takes = λ bytes x rest small e. let t = F.takes bytes x rest small e in (t.0, there x t.1);
  again = λ x rest h. F.again x rest (back x h);
  fault = F.fault;
}

counts : IsField AssociationCounts counts_at counts_bytes HoldsCounts after_counts
unfolding counts_at
counts =
    let parts : IsField AssociationCounts (field_as counts_of (both_at (number_at w16) (both_at (number_at w16) (number_at w16)))) counts_bytes (λ c. fit_counts (counts_parts c)) after_counts =
    as_made counts_of counts_parts (λ x. refl) (λ c. refl) (both number16 (both number16 number16)) in
    other_facts parts (λ c h. (h.0, h.1.0, h.1.1)) (λ c h. (h.0, (h.1, h.2)))

abbrev branch_parts : KnownBranch → Triple × (BranchState × (ℤ × (ℕ × AssociationCounts)))
branch_parts b = (b.xid, (b.state, (b.mark, (b.timestamp, b.associations))))

abbrev fit_branch : Triple × (BranchState × (ℤ × (ℕ × AssociationCounts))) → Type 0
fit_branch x = IsWithinLimits x.0 × (Unit {0} × (FitsSigned w32 x.1.1.0 × ((x.1.1.1.0 < 2 ^ 64) × HoldsCounts x.1.1.1.1)))

pub branch : IsField KnownBranch branch_at branch_bytes HoldsBranch after_branch
unfolding branch_at
branch =
    let parts : IsField KnownBranch (field_as branch_of (both_at name_at (both_at state_at (both_at code_at (both_at (number_at w64) counts_at))))) branch_bytes (λ b. fit_branch (branch_parts b)) after_branch =
    as_made branch_of branch_parts (λ x. refl) (λ b. refl) (both name (both standing (both code (both number64 counts)))) in
    other_facts parts
    (λ b h. record { xid = h.0; mark = h.1.1.0; timestamp = h.1.1.1.0; associations = h.1.1.1.1 })
    (λ b h. (h.xid, (tt, (h.mark, (h.timestamp, h.associations)))))
