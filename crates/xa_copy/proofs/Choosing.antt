-- What a file begins with, by the bytes that were read of it.
use Rattle.std.proofs.Common.{◌≡◌, inl, inr, ℕ, ◌+◌, ◌-◌, ◌≤◌, ◌<◌, true, false, List, [], ◌∷◌, ◌++◌, length, take, drop, sym, ◌∙◌, ap, subst, arith, length-drop, length-take-le, take-append-drop}
use Rattle.std.proofs.lemmas.Bool.{cases_Bool}
use Rattle.std.proofs.lemmas.List.{append-nil, drop-drop, drop-take, take-take, take_all}
use Rattle.std.proofs.lemmas.Slice.Eq.{bytes_eq-Decides}
use Rattle.std.specs.Str.{bytes_eq}
use Rattle.std.specs.Prelude.{Vec}
use Rattle.std.specs.declared.alloc.Global.{Global}
use Rattle.sha2.specs.Sha256.{sha256}
use Rattle.xa_log.specs.Believed.Chain.{digest, format_in, is_record, logged, magic, most_body, record_of, size_at, start, text}
use Rattle.xa_log.specs.Believed.Generation.{number_in}
use Rattle.xa_log.specs.declared.format.Format.{Format}
use Rattle.xa_log.proofs.Front.{none_empty, none_short, size_take}
use Rattle.xa_log.proofs.Records.{bodies_closed, body_headed, format_front, record_from, record_to}
use Rattle.xa_copy.specs.Heads.{Heads}
use Rattle.xa_copy.specs.Records.{Chains}

-- ---- none

unlogged : (file : List ℕ) → ((format : Format) → is_record format (start format) (drop 8 file) ≡ false) → logged file ≡ []
unlogged file none = bodies_closed (format_in file) (length file) (start (format_in file)) (drop 8 file) (none (format_in file))

pub none_by_length : (file : List ℕ) → length file < 12 → logged file ≡ []
none_by_length file short =
    unlogged file (λ format. none_short format (start format) (drop 8 file) (omega (arith, short, length-drop 8 file)))

pub none_by_size : (file : List ℕ) → size_at (drop 8 file) ≡ 0 → logged file ≡ []
none_by_size file is = unlogged file (λ format. none_empty format (start format) (drop 8 file) is)

-- a record is told by its own bytes
front_record : (format : Format) (prev x : List ℕ) (size : ℕ) → size_at x ≡ size → is_record format prev x ≡ true
    → is_record format prev (take (36 + size) x) ≡ true
front_record format prev x size is there =
    let r = record_to format prev x there in
    let y : List ℕ = take (36 + size) x in
    let same : size_at y ≡ size_at x = size_take (36 + size) x (omega arith) in
    let long : length y ≡ 36 + size = length-take-le (36 + size) x (omega (arith, r.whole, is)) in
    let k : 4 + size_at y ≡ 4 + size = ap (λ (n : ℕ). 4 + n) (same ∙ is) in
    let m : 36 + size ≡ 4 + size + 32 = omega arith in
    let tail : take 32 (drop (4 + size_at y) y) ≡ take 32 (drop (4 + size_at x) x) =
    (λ i. take 32 (drop (k i) (take (m i) x))) ∙ ap (λ (l : List ℕ). take 32 l) (drop-take (4 + size) 32 x)
    ∙ take-take 32 32 (drop (4 + size) x) (omega arith) ∙ ap (λ (n : ℕ). take 32 (drop (4 + n) x)) (sym is) in
    let front : take (4 + size_at y) y ≡ take (4 + size_at x) x =
    ap (λ (n : ℕ). take n y) k ∙ take-take (4 + size) (36 + size) x (omega arith) ∙ ap (λ (n : ℕ). take (4 + n) x) (sym is) in
    record_from format prev y (record {
      some = omega (arith, r.some, same);
      small = omega (arith, r.small, same);
      whole = omega (arith, long, same, is);
      chains = tail ∙ r.chains ∙ ap (λ (l : List ℕ). sha256 (prev ++ l)) (sym front);
    })

-- as a slice's bounds spell it
pub sliced : (d front : List ℕ) → d ≡ front → take (length d - 8) (drop 8 d) ≡ drop 8 front
sliced d front is = take_all (length d - 8) (drop 8 d) (omega (arith, length-drop 8 d)) ∙ ap (λ (l : List ℕ). drop 8 l) is

pub chains_sliced : (size : ℕ) (p prev d front after : List ℕ) → p ≡ prev → d ≡ front → Chains size p (take (length d - 8) (drop 8 d)) after
    → Chains size prev (drop 8 front) after
chains_sliced size p prev d front after p_is d_is ch =
    subst (λ (l : List ℕ). Chains size prev l after) (sliced d front d_is) (subst (λ (q : List ℕ). Chains size q (take (length d - 8) (drop 8 d)) after) p_is ch)

pub name_by : (d front : List ℕ) (format : Format) → d ≡ front → bytes_eq (take 8 d) (magic format) ≡ true → take 8 front ≡ magic format
name_by d front format is same = ap (λ (l : List ℕ). take 8 l) (sym is) ∙ (bytes_eq-Decides (take 8 d) (magic format)).0 same

-- of a file of which these bytes were read
module _ (format : Format) (file front : List ℕ) (size : ℕ) (long : length front ≡ 44 + size) (read : front ≡ take (44 + size) file)
    (named : take 8 front ≡ magic format) where
  behind : drop 8 front ≡ take (36 + size) (drop 8 file)
  behind =
      let n : 44 + size ≡ 8 + (36 + size) = omega arith in
      ap (λ (l : List ℕ). drop 8 l) (read ∙ ap (λ (k : ℕ). take k file) n) ∙ drop-take 8 (36 + size) file

  name : take 8 file ≡ magic format
  name = sym (take-take 8 (44 + size) file (omega arith)) ∙ ap (λ (l : List ℕ). take 8 l) (sym read) ∙ named

  pub none_by_record : is_record format (start format) (drop 8 front) ≡ false → size_at (drop 8 front) ≡ size → logged file ≡ []
  none_by_record none is =
      let f : format_in file ≡ format = format_front format file name in
      let same : size_at (drop 8 file) ≡ size =
      sym (size_take (36 + size) (drop 8 file) (omega arith)) ∙ ap size_at (sym behind) ∙ is in
      let closed : is_record format (start format) (drop 8 file) ≡ false =
      elim (cases_Bool (is_record format (start format) (drop 8 file))) [
        | inl there ↦ absurd (cc (sym none, ap (λ (l : List ℕ). is_record format (start format) l) behind, front_record format (start format) (drop 8 file) size same there))
        | inr other ↦ other
      ] in
      bodies_closed (format_in file) (length file) (start (format_in file)) (drop 8 file)
      (ap (λ (k : Format). is_record k (start k) (drop 8 file)) f ∙ closed)

  module _ (after : List ℕ) (chains : Chains size (start format) (drop 8 front) after) where
    text_is : front ≡ text format (chains.body ∷ [])
    text_is =
        sym (take-append-drop 8 front) ∙ (λ i. named i ++ chains.is i)
        ∙ ap (λ (l : List ℕ). magic format ++ l) (sym (append-nil (record_of (start format) chains.body)))

    pub number_by : (n m : ℕ) → n ≡ 12 → m ≡ size → take m (drop n front) ≡ chains.body
    number_by n m n_is m_is =
        (λ i. take (m_is i) (drop (n_is i) front)) ∙ ap (λ (l : List ℕ). take size l) (sym (drop-drop 4 8 front) ∙ ap (λ (l : List ℕ). drop 4 l) chains.is)
        ∙ ap (λ (k : ℕ). take k (drop 4 (record_of (start format) chains.body))) (sym chains.long) ∙ body_headed chains.body (digest (start format) chains.body)

    pub heads_by : 1 ≤ size → size ≤ most_body format → (vec : Vec ℕ Global) → vec.items ≡ front → (generation : ℕ) → generation ≡ number_in chains.body
        → Heads file (record { format = format; front = vec; generation = generation })
    heads_by some small vec vec_is generation number = record {
      body = chains.body;
      log = record {
        rest = drop (44 + size) file;
        split = sym (take-append-drop (44 + size) file) ∙ ap (λ (l : List ℕ). l ++ drop (44 + size) file) (sym read ∙ text_is);
        sizes = (record { some = omega (arith, some, chains.long); small = omega (arith, small, chains.long) }, tt);
      };
      front = vec_is ∙ text_is;
      number = number;
    }

-- ---- what was read first

pub size_by : (file into : List ℕ) (have : ℕ) → have ≡ 12 → take have into ≡ take have file → size_at (take 4 (drop 8 into)) ≡ size_at (drop 8 file)
size_by file into have is read =
    ap size_at (sym (drop-take 8 4 into) ∙ ap (λ (l : List ℕ). drop 8 l) (ap (λ (n : ℕ). take n into) (sym is) ∙ read ∙ ap (λ (n : ℕ). take n file) is) ∙ drop-take 8 4 file)
    ∙ size_take 4 (drop 8 file) (omega arith)
