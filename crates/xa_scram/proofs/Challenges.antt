-- The parts of a challenge.
use Rattle.std.proofs.Common.{◌≡◌, ℕ, List, ◌∷◌, ◌++◌, Option, Some, codes, sym, ap, subst, ◌∙◌, append_assoc}
use Rattle.std.specs.Prelude.{decimal}
use Rattle.xa_scram.specs.Believed.Limits.{IsNonce}
use Rattle.xa_scram.specs.Believed.Messages.{Asked, SpellsChallenge, base64}
use Rattle.xa_scram.specs.Cutting.{HasNone}
use Rattle.xa_scram.specs.Reading.{IsTail}
use Rattle.xa_scram.proofs.Coded.{base64_no_comma}
use Rattle.xa_scram.proofs.Cuts.{after_so, cut_so, no_cut, nonce_no_comma}

-- ---- the salt and the count

grouped_tail : (p s c d : List ℕ) → p ++ s ++ c ++ d ≡ p ++ (s ++ (c ++ d))
grouped_tail p s c d = simp append_assoc

tail_split : (bytes s : List ℕ) (n : ℕ) → IsTail bytes s n → bytes ≡ codes "s=" ++ (base64 s ++ (44 ∷ 105 ∷ 61 ∷ decimal n))
tail_split bytes s n h = h.bytes_are ∙ grouped_tail (codes "s=") (base64 s) (codes ",i=") (decimal n)

pub no_salt : (bytes s : List ℕ) (n : ℕ) → ((rest : List ℕ) → bytes ≡ codes "s=" ++ rest → ⊥) → IsTail bytes s n → ⊥
no_salt bytes s n none h = none _ (tail_split bytes s n h)

pub salt_front : (bytes rest s : List ℕ) (n : ℕ) → bytes ≡ codes "s=" ++ rest → IsTail bytes s n → rest ≡ base64 s ++ (44 ∷ 105 ∷ 61 ∷ decimal n)
salt_front bytes rest s n e h = after_so (codes "s=") bytes rest (base64 s ++ (44 ∷ 105 ∷ 61 ∷ decimal n)) e (tail_split bytes s n h)

pub no_comma : (bytes rest s : List ℕ) (n : ℕ) → bytes ≡ codes "s=" ++ rest → HasNone 44 rest → IsTail bytes s n → ⊥
no_comma bytes rest s n e none h = no_cut 44 rest (base64 s) (105 ∷ 61 ∷ decimal n) none (salt_front bytes rest s n e h)

pub salt_cut : (bytes rest a b s : List ℕ) (n : ℕ) → bytes ≡ codes "s=" ++ rest → HasNone 44 a × (rest ≡ a ++ (44 ∷ b)) → IsTail bytes s n
    → (a ≡ base64 s) × (b ≡ 105 ∷ 61 ∷ decimal n)
salt_cut bytes rest a b s n e p h = cut_so 44 rest a (base64 s) b (105 ∷ 61 ∷ decimal n) p (base64_no_comma s h.salt_bytes)
    (salt_front bytes rest s n e h)

-- what was read is the tail
pub tail_again : (bytes rest a b d s : List ℕ) (n : ℕ) → bytes ≡ codes "s=" ++ rest → rest ≡ a ++ (44 ∷ b) → b ≡ codes "i=" ++ d → a ≡ base64 s
    → d ≡ decimal n
    → bytes ≡ codes "s=" ++ base64 s ++ codes ",i=" ++ decimal n
tail_again bytes rest a b d s n e f g h k =
    let last : b ≡ codes "i=" ++ decimal n = g ∙ ap (λ (x : List ℕ). codes "i=" ++ x) k in
    let inner : rest ≡ base64 s ++ (44 ∷ codes "i=" ++ decimal n) = f ∙ ap (λ (x : List ℕ). x ++ (44 ∷ b)) h
    ∙ ap (λ (x : List ℕ). base64 s ++ (44 ∷ x)) last in
    e ∙ ap (λ (x : List ℕ). codes "s=" ++ x) inner ∙ sym (grouped_tail (codes "s=") (base64 s) (codes ",i=") (decimal n))

-- ---- the nonce

abbrev pub tail_of_asked : Asked → List ℕ
tail_of_asked a = codes "s=" ++ base64 a.salt ++ codes ",i=" ++ decimal a.iterations

grouped_whole : (p n o c s i d : List ℕ) → p ++ n ++ o ++ c ++ s ++ i ++ d ≡ p ++ (n ++ (o ++ (c ++ s ++ i ++ d)))
grouped_whole p n o c s i d = simp append_assoc

pub challenge_split : (nonce bytes : List ℕ) (a : Asked) → SpellsChallenge nonce bytes a
    → bytes ≡ codes "r=" ++ (nonce ++ (a.own ++ (44 ∷ tail_of_asked a)))
challenge_split nonce bytes a h = h.bytes_are ∙ grouped_whole (codes "r=") nonce a.own (codes ",s=") (base64 a.salt) (codes ",i=")
    (decimal a.iterations)

pub no_front : (nonce bytes : List ℕ) (a : Asked) → ((rest : List ℕ) → bytes ≡ codes "r=" ++ rest → ⊥) → SpellsChallenge nonce bytes a → ⊥
no_front nonce bytes a none h = none _ (challenge_split nonce bytes a h)

pub front_so : (nonce bytes rest : List ℕ) (a : Asked) → bytes ≡ codes "r=" ++ rest → SpellsChallenge nonce bytes a
    → rest ≡ nonce ++ (a.own ++ (44 ∷ tail_of_asked a))
front_so nonce bytes rest a e h = after_so (codes "r=") bytes rest (nonce ++ (a.own ++ (44 ∷ tail_of_asked a))) e
    (challenge_split nonce bytes a h)

pub part_so : (nonce bytes rest part : List ℕ) (a : Asked) → bytes ≡ codes "r=" ++ rest → rest ≡ nonce ++ part → SpellsChallenge nonce bytes a
    → part ≡ a.own ++ (44 ∷ tail_of_asked a)
part_so nonce bytes rest part a e f h = after_so nonce rest part (a.own ++ (44 ∷ tail_of_asked a)) f (front_so nonce bytes rest a e h)

pub own_none : (nonce bytes rest part : List ℕ) (a : Asked) → bytes ≡ codes "r=" ++ rest → rest ≡ nonce ++ part → HasNone 44 part
    → SpellsChallenge nonce bytes a → ⊥
own_none nonce bytes rest part a e f none h = no_cut 44 part a.own (tail_of_asked a) none (part_so nonce bytes rest part a e f h)

pub own_so : (nonce bytes rest part own tail : List ℕ) (a : Asked) → bytes ≡ codes "r=" ++ rest → rest ≡ nonce ++ part
    → HasNone 44 own × (part ≡ own ++ (44 ∷ tail)) → SpellsChallenge nonce bytes a
    → (own ≡ a.own) × (tail ≡ tail_of_asked a)
own_so nonce bytes rest part own tail a e f p h = cut_so 44 part own a.own tail (tail_of_asked a) p (nonce_no_comma a.own h.own.plain)
    (part_so nonce bytes rest part a e f h)

pub tail_is : (nonce bytes tail : List ℕ) (a : Asked) → SpellsChallenge nonce bytes a → tail ≡ tail_of_asked a → IsTail tail a.salt a.iterations
tail_is nonce bytes tail a h e = record { salt = h.salt; salt_bytes = h.salt_bytes; count = h.count; bytes_are = e }

pub same_asked : (a : Asked) (own salt : List ℕ) (n : ℕ) → own ≡ a.own → salt ≡ a.salt → n ≡ a.iterations
    → Some (record { own = own; salt = salt; iterations = n }) ≡ Some a
same_asked a own salt n e f g =
    let make : List ℕ → List ℕ → ℕ → Option Asked = λ x y z. Some (record { own = x; salt = y; iterations = z }) in
    ap (λ x. make x salt n) e ∙ ap (λ x. make a.own x n) f ∙ ap (make a.own a.salt) g

-- what was read is the challenge
pub challenge_again : (nonce bytes rest part own tail : List ℕ) (a : Asked) → bytes ≡ codes "r=" ++ rest → rest ≡ nonce ++ part
    → part ≡ own ++ (44 ∷ tail) → a.own ≡ own → IsNonce own → IsTail tail a.salt a.iterations
    → SpellsChallenge nonce bytes a
challenge_again nonce bytes rest part own tail a e f g same is h =
    let inner : part ≡ a.own ++ (44 ∷ tail_of_asked a) = g ∙ ap (λ (x : List ℕ). x ++ (44 ∷ tail)) (sym same)
    ∙ ap (λ (x : List ℕ). a.own ++ (44 ∷ x)) h.bytes_are in
    let outer : rest ≡ nonce ++ (a.own ++ (44 ∷ tail_of_asked a)) = f ∙ ap (λ (x : List ℕ). nonce ++ x) inner in
    record {
      own = subst IsNonce (sym same) is;
      salt = h.salt;
      salt_bytes = h.salt_bytes;
      count = h.count;
      bytes_are =
          e ∙ ap (λ (x : List ℕ). codes "r=" ++ x) outer
          ∙ sym (grouped_whole (codes "r=") nonce a.own (codes ",s=") (base64 a.salt) (codes ",i=") (decimal a.iterations));
    }
