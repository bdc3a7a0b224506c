-- The bytes of a record that was read.
use Rattle.std.proofs.Common.{◌≡◌, inl, inr, ℕ, ◌+◌, ◌-◌, ◌≤◌, true, false, List, ◌++◌, length, take, drop, refl, sym, ◌∙◌, ap, arith, length-drop, true≢false}
use Rattle.std.specs.Int.{w32, to_be_bytes}
use Rattle.std.proofs.lemmas.List.{append-nil, drop_all, take_all}
use Rattle.std.proofs.lemmas.Bool.{cases_Bool}
use Rattle.std.proofs.lemmas.Slice.Eq.{bytes_eq-Decides}
use Rattle.std.specs.Str.{bytes_eq}
use Rattle.sha2.specs.Sha256.{sha256}
use Rattle.xa_log.specs.Believed.Chain.{body_at, digest_at, is_record, record_of, size_at}
use Rattle.xa_log.specs.declared.format.Format.{Format}
use Rattle.xa_log.specs.declared.format.Format.TheVariants.{Two}
use Rattle.xa_log.proofs.Records.{record_from, record_to}
use Rattle.xa_log.proofs.Walk.{length-body_at, stood}
use Rattle.xa_copy.specs.Records.{Chains}

pub chains_by : (size : ℕ) (prev bytes after : List ℕ) → 1 ≤ size → size ≤ 8388608 → length bytes ≡ 36 + size → size_at bytes ≡ size
    → take 4 bytes ≡ to_be_bytes w32 size → drop (4 + size) bytes ≡ after → after ≡ digest_at prev bytes → Chains size prev bytes after
chains_by size prev bytes after some small long is spelled tail chains =
    let stored : take 32 (drop (4 + size_at bytes) bytes) ≡ drop (4 + size_at bytes) bytes =
    take_all 32 (drop (4 + size_at bytes) bytes) (omega (arith, long, is, length-drop (4 + size_at bytes) bytes)) in
    let at : drop (4 + size_at bytes) bytes ≡ after = ap (λ (n : ℕ). drop (4 + n) bytes) is ∙ tail in
    let st = stood Two prev bytes
    (record_from Two prev bytes (record {
      some = omega (arith, some, is);
      small = omega (arith, small, is);
      whole = omega (arith, long, is);
      chains = stored ∙ at ∙ chains;
    }))
    (spelled ∙ ap (λ (n : ℕ). to_be_bytes w32 n) (sym is)) in
    record {
      body = body_at bytes;
      long = length-body_at bytes (omega (arith, long, is)) ∙ is;
      is = st.split ∙ ap (λ (l : List ℕ). record_of prev (body_at bytes) ++ l) (drop_all (36 + size_at bytes) bytes (omega (arith, long, is)))
          ∙ append-nil (record_of prev (body_at bytes));
      digest_is = chains ∙ st.digest_is;
    }

pub unchained_by : (size : ℕ) (prev bytes tail : List ℕ) → length bytes ≡ 36 + size → drop (4 + size) bytes ≡ tail
    → (tail ≡ digest_at prev bytes → ⊥) → size_at bytes ≡ size → (format : Format) → is_record format prev bytes ≡ false
unchained_by size prev bytes tail long at none is format =
    elim (cases_Bool (is_record format prev bytes)) [
      | inl there ↦
          let r = record_to format prev bytes there in
          let stored : take 32 (drop (4 + size_at bytes) bytes) ≡ drop (4 + size_at bytes) bytes =
          take_all 32 (drop (4 + size_at bytes) bytes) (omega (arith, long, is, length-drop (4 + size_at bytes) bytes)) in
          absurd (none (sym (stored ∙ ap (λ (n : ℕ). drop (4 + n) bytes) is ∙ at) ∙ r.chains))
      | inr other ↦ other
    ]

-- as slices' bounds spell them
module _ (size : ℕ) (prev bytes after : List ℕ) (long : length bytes ≡ 36 + size) (is : size_at bytes ≡ size)
    (after_is : after ≡ sha256 (prev ++ take (length bytes - 32) bytes)) where
  at : length bytes - 32 ≡ 4 + size
  at = omega (arith, long)

  digest_is : after ≡ digest_at prev bytes
  digest_is = after_is ∙ ap (λ (n : ℕ). sha256 (prev ++ take n bytes)) (at ∙ ap (λ (n : ℕ). 4 + n) (sym is))

  tail : take (length bytes - (length bytes - 32)) (drop (length bytes - 32) bytes) ≡ drop (4 + size) bytes
  tail =
      take_all (length bytes - (length bytes - 32)) (drop (length bytes - 32) bytes) (omega (arith, length-drop (length bytes - 32) bytes))
      ∙ ap (λ (n : ℕ). drop n bytes) at

  pub chains_slices : 1 ≤ size → size ≤ 8388608 → take 4 bytes ≡ to_be_bytes w32 size
      → bytes_eq (take (length bytes - (length bytes - 32)) (drop (length bytes - 32) bytes)) after ≡ true → Chains size prev bytes after
  chains_slices some small spelled same =
      chains_by size prev bytes after some small long is spelled (sym tail ∙ (bytes_eq-Decides _ after).0 same) digest_is

  pub unchained_slices : bytes_eq (take (length bytes - (length bytes - 32)) (drop (length bytes - 32) bytes)) after ≡ false
      → (format : Format) → is_record format prev bytes ≡ false
  unchained_slices other format =
      unchained_by size prev bytes (drop (4 + size) bytes) long refl
      (λ chains. true≢false (sym ((bytes_eq-Decides _ after).1 (tail ∙ chains ∙ sym digest_is)) ∙ other)) is format
