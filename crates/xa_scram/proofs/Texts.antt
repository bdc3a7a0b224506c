-- The parts of a verifier's text.
use Rattle.std.proofs.Common.{◌≡◌, ℕ, ◌<◌, ◌^◌, List, [], ◌∷◌, ◌++◌, Option, Some, codes, sym, ap, ◌∙◌, arith, append_assoc}
use Rattle.std.specs.Prelude.{decimal}
use Rattle.xa_scram.specs.Believed.Keys.{Credentials}
use Rattle.xa_scram.specs.Believed.Limits.{AreBytes, IsCount, IsSalt, IsWithinLimits}
use Rattle.xa_scram.specs.Believed.Messages.{base64, text_of}
use Rattle.xa_scram.specs.Cutting.{HasNone}
use Rattle.xa_scram.specs.Reading.{AreKeys}
use Rattle.xa_scram.proofs.Coded.{base64_no_colon, base64_no_dollar}
use Rattle.xa_scram.proofs.Cuts.{after_so, cut_so, no_cut}
use Rattle.xa_scram.proofs.Decimals.{decimal_none}

keys_split : (bytes stored server : List ℕ) → AreKeys bytes stored server → bytes ≡ base64 stored ++ (58 ∷ base64 server)
keys_split bytes stored server h = h.bytes_are ∙ append_assoc (base64 stored) (58 ∷ []) (base64 server)

pub keys_part : (bytes a b stored server : List ℕ) → HasNone 58 a × (bytes ≡ a ++ (58 ∷ b)) → AreKeys bytes stored server
    → (a ≡ base64 stored) × (b ≡ base64 server)
keys_part bytes a b stored server p h = cut_so 58 bytes a (base64 stored) b (base64 server) p (base64_no_colon stored h.stored_bytes)
    (keys_split bytes stored server h)

grouped : (p d c s e a f b : List ℕ) → p ++ d ++ c ++ s ++ e ++ a ++ f ++ b ≡ p ++ (d ++ (c ++ (s ++ (e ++ (a ++ f ++ b)))))
grouped p d c s e a f b = simp append_assoc

abbrev pub keys_text : Credentials → List ℕ
keys_text v = base64 v.stored ++ (58 ∷ []) ++ base64 v.server

abbrev pub salt_text : Credentials → List ℕ
salt_text v = base64 v.salt ++ (36 ∷ keys_text v)

text_split : (text : List ℕ) (v : Credentials) → text ≡ text_of v → text ≡ codes "SCRAM-SHA-256$" ++ (decimal v.iterations ++ (58 ∷ salt_text v))
text_split text v e =
    e ∙ grouped (codes "SCRAM-SHA-256$") (decimal v.iterations) (58 ∷ []) (base64 v.salt) (36 ∷ []) (base64 v.stored) (58 ∷ []) (base64 v.server)

pub has_front : (text : List ℕ) (v : Credentials) → ((rest : List ℕ) → text ≡ codes "SCRAM-SHA-256$" ++ rest → ⊥) → text ≡ text_of v → ⊥
has_front text v none e = none _ (text_split text v e)

pub front_part : (text rest : List ℕ) (v : Credentials) → text ≡ codes "SCRAM-SHA-256$" ++ rest → text ≡ text_of v
    → rest ≡ decimal v.iterations ++ (58 ∷ salt_text v)
front_part text rest v p e = after_so (codes "SCRAM-SHA-256$") text rest (decimal v.iterations ++ (58 ∷ salt_text v)) p (text_split text v e)

count_small : (v : Credentials) → IsWithinLimits v → v.iterations < 2 ^ 32
count_small v h = omega (arith, h.count.1)

count_none : (v : Credentials) → IsWithinLimits v → HasNone 58 (decimal v.iterations)
count_none v h = decimal_none 58 v.iterations (count_small v h) (λ low high. omega arith)

pub count_part : (rest a b : List ℕ) (v : Credentials) → HasNone 58 a × (rest ≡ a ++ (58 ∷ b)) → IsWithinLimits v
    → rest ≡ decimal v.iterations ++ (58 ∷ salt_text v) → (a ≡ decimal v.iterations) × (b ≡ salt_text v)
count_part rest a b v p h e = cut_so 58 rest a (decimal v.iterations) b (salt_text v) p (count_none v h) e

pub salt_part : (rest a b : List ℕ) (v : Credentials) → HasNone 36 a × (rest ≡ a ++ (36 ∷ b)) → IsWithinLimits v → rest ≡ salt_text v
    → (a ≡ base64 v.salt) × (b ≡ keys_text v)
salt_part rest a b v p h e = cut_so 36 rest a (base64 v.salt) b (keys_text v) p (base64_no_dollar v.salt h.salt_bytes) e

pub keys_are : (bytes : List ℕ) (v : Credentials) → IsWithinLimits v → bytes ≡ keys_text v → AreKeys bytes v.stored v.server
keys_are bytes v h e = record {
  stored_size = h.stored;
  server_size = h.server;
  stored_bytes = h.stored_bytes;
  server_bytes =
      h.server_bytes;
  bytes_are = e;
}

pub same_verifier : (v : Credentials) (salt : List ℕ) (n : ℕ) (stored server : List ℕ) → salt ≡ v.salt → n ≡ v.iterations → stored ≡ v.stored
    → server ≡ v.server
    → Some (record { salt = salt; iterations = n; stored = stored; server = server }) ≡ Some v
same_verifier v salt n stored server e f g h =
    let make : List ℕ → ℕ → List ℕ → List ℕ → Option Credentials =
    λ a b c d. Some (record { salt = a; iterations = b; stored = c; server = d }) in
    ap (λ x. make x n stored server) e ∙ ap (λ x. make v.salt x stored server) f ∙ ap (λ x. make v.salt v.iterations x server) g
    ∙ ap (make v.salt v.iterations v.stored) h

-- what was read is the text
pub text_again : (text rest count others salt keys : List ℕ) (v : Credentials) → text ≡ codes "SCRAM-SHA-256$" ++ rest
    → rest ≡ count ++ (58 ∷ others) → others ≡ salt ++ (36 ∷ keys)
    → count ≡ decimal v.iterations → salt ≡ base64 v.salt → keys ≡ keys_text v → text ≡ text_of v
text_again text rest count others salt keys v a b c d e f =
    let inner : others ≡ salt_text v = c ∙ ap (λ (s : List ℕ). s ++ (36 ∷ keys)) e ∙ ap (λ (s : List ℕ). base64 v.salt ++ (36 ∷ s)) f in
    let outer : rest ≡ decimal v.iterations ++ (58 ∷ salt_text v) = b ∙ ap (λ (s : List ℕ). s ++ (58 ∷ others)) d
    ∙ ap (λ (s : List ℕ). decimal v.iterations ++ (58 ∷ s)) inner in
    a ∙ ap (λ (s : List ℕ). codes "SCRAM-SHA-256$" ++ s) outer
    ∙ sym (grouped (codes "SCRAM-SHA-256$") (decimal v.iterations) (58 ∷ []) (base64 v.salt) (36 ∷ []) (base64 v.stored) (58 ∷ [])
    (base64 v.server))

pub has_count : (rest : List ℕ) (v : Credentials) → HasNone 58 rest → rest ≡ decimal v.iterations ++ (58 ∷ salt_text v) → ⊥
has_count rest v none e = no_cut 58 rest (decimal v.iterations) (salt_text v) none e

pub has_salt : (rest : List ℕ) (v : Credentials) → HasNone 36 rest → rest ≡ salt_text v → ⊥
has_salt rest v none e = no_cut 36 rest (base64 v.salt) (keys_text v) none e

pub within : (v : Credentials) → IsCount v.iterations → IsSalt v.salt → AreBytes v.salt → (bytes : List ℕ) → AreKeys bytes v.stored v.server
    → IsWithinLimits v
within v count salt bytes text keys =
    record {
      salt = salt;
      count = count;
      stored = keys.stored_size;
      server = keys.server_size;
      salt_bytes = bytes;
      stored_bytes = keys.stored_bytes;
      server_bytes = keys.server_bytes;
    }
