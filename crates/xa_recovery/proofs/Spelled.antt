-- Bodies that are those of records, read one by one.
use Rattle.std.proofs.Common.{◌≡◌, ℕ, suc, map, Vec, Global, Err, List, [], ◌∷◌, ◌++◌, length, refl, ap, sym, ◌∙◌, subst}
use Rattle.std.specs.List.{AllByRecursion}
use Rattle.xa_record.specs.declared.record.Record.{Record}
use Rattle.xa_record.specs.declared.fault.RecordFault.{RecordFault}
use Rattle.xa_record.specs.declared.fault.RecordFault.TheVariants as reading
use Rattle.xa_record.specs.Answers.{Gives}
use Rattle.xa_record.specs.Limits.{IsRecord}
use Rattle.xa_record.specs.Spelling.{spelled}
use Rattle.xa_model.specs.Fold.{fold}
use Rattle.xa_model.proofs.Folds.{first_fault}
use Rattle.xa_recovery.specs.declared.log_fault.LogFault.{LogFault}
use Rattle.xa_recovery.specs.declared.log_fault.LogFault.TheVariants.{Memory, Malformed, Order}
use Rattle.xa_recovery.specs.declared.fault.AddFault.{AddFault}
use Rattle.xa_recovery.specs.declared.fault.AddFault.TheVariants as add
use Rattle.xa_recovery.specs.declared.rebuilding.Rebuilding.{Rebuilding}
use Rattle.xa_recovery.specs.Rebuilding.{HasRead, Taken}
use Rattle.xa_recovery.specs.declared.bodies.Progress.{Progress}
use Rattle.xa_recovery.specs.declared.bodies.Progress.TheVariants.{InOrder, OutOfOrder}
use Rattle.xa_recovery.specs.Log.{AreBodiesOf, IsNoBody, IsFirstMalformed, HasReadBodies, HasComeTo, BodyTaken, LogRebuilt}
use Rattle.xa_recovery.proofs.Loops.{joined, mapped_both}

-- lists

all_one_more : {A : Type 0} (P : A → Type 0) (xs : List A) (x : A) → AllByRecursion P xs → P x → AllByRecursion P (xs ++ x ∷ [])
all_one_more P [] x all here = (here, tt)
all_one_more P (y ∷ xs) x all here = (all.0, all_one_more P xs x all.1 here)

length_mapped : {A B : Type 0} (f : A → B) (xs : List A) → length (map f xs) ≡ length xs
length_mapped f [] = refl
length_mapped f (x ∷ xs) = ap (λ n. suc n) (length_mapped f xs)

-- one more body

length_of : (rs : List Record) (bodies : List (List ℕ)) → AreBodiesOf rs bodies → length rs ≡ length bodies
length_of rs bodies are = sym (length_mapped spelled rs) ∙ ap length are.spelling

one_more_body : (rs : List Record) (bodies : List (List ℕ)) (r : Record) (body : List ℕ) → AreBodiesOf rs bodies → IsRecord r → body ≡ spelled r → AreBodiesOf (rs ++ r ∷ []) (bodies ++ body ∷ [])
one_more_body rs bodies r body are is same = record {
  limits = all_one_more IsRecord rs r are.limits is;
  spelling = mapped_both spelled rs (r ∷ []) ∙ (ap (λ bs. bs ++ spelled r ∷ []) are.spelling ∙ ap (λ b. bodies ++ b ∷ []) (sym same));
}

pub body_read : (m more : Rebuilding) (bodies : List (List ℕ)) (r : Record) (body : List ℕ) (h : HasReadBodies m bodies) → IsRecord r → body ≡ spelled r → HasRead more (h.records ++ r ∷ [])
    → HasReadBodies more (bodies ++ body ∷ [])
body_read m more bodies r body h is same taken = record { records = h.records ++ r ∷ []; are = one_more_body h.records bodies r body h.are is same; read = taken }

pub body_refused : (m : Rebuilding) (bodies : List (List ℕ)) (i : ℕ) (r : Record) (body : List ℕ) (h : HasReadBodies m bodies) → length bodies ≡ i → IsRecord r → body ≡ spelled r
    → (e : AddFault) → e ≡ add.Order → Taken h.records r (Err e) → LogRebuilt (bodies ++ body ∷ []) (Err (Order i))
body_refused m bodies i r body h at is same e order taken =
    let out : fold (h.records ++ r ∷ []) ≡ Err (length h.records) = rw order at taken in
    (h.records ++ r ∷ [], one_more_body h.records bodies r body h.are is same, out ∙ ap Err (length_of h.records bodies h.are ∙ at))

malformed_behind : (rs : List Record) (bodies : List (List ℕ)) (i : ℕ) (body : List ℕ) → AreBodiesOf rs bodies → length bodies ≡ i → IsNoBody body → IsFirstMalformed i (bodies ++ body ∷ [])
malformed_behind rs bodies i body are at none = record {
  before = rs;
  body = body;
  behind = [];
  parts = ap (λ bs. bs ++ body ∷ []) (sym are.spelling);
  index = length_of rs bodies are ∙ at;
  limits = are.limits;
  malformed = none;
}

-- a fault of the first bodies is one of all, but for the order

more_behind : (i : ℕ) (bodies more : List (List ℕ)) → IsFirstMalformed i bodies → IsFirstMalformed i (bodies ++ more)
more_behind i bodies more h = record {
  before = h.before;
  body = h.body;
  behind = h.behind ++ more;
  parts = ap (λ bs. bs ++ more) h.parts ∙ joined (map spelled h.before) (h.body ∷ h.behind) more;
  index = h.index;
  limits = h.limits;
  malformed = h.malformed;
}

pub malformed_of_all : (i : ℕ) (bodies more all : List (List ℕ)) → IsFirstMalformed i bodies → all ≡ bodies ++ more → IsFirstMalformed i all
malformed_of_all i bodies more all h is = subst (λ bs. IsFirstMalformed i bs) (sym is) (more_behind i bodies more h)

-- the bodies after a record out of order

pub order_stays : (first : ℕ) (bodies : List (List ℕ)) (r : Record) (body : List ℕ) → IsRecord r → body ≡ spelled r
    → LogRebuilt bodies (Err (Order first)) → LogRebuilt (bodies ++ body ∷ []) (Err (Order first))
order_stays first bodies r body is same h = (h.0 ++ r ∷ [], one_more_body h.0 bodies r body h.1 is same, first_fault h.0 (r ∷ []) first h.2)

no_body : (body : List ℕ) (e : RecordFault) → e ≡ reading.Malformed → ((r : Record) → IsRecord r → body ≡ spelled r → Gives (Err e) r) → IsNoBody body
no_body body e malformed only = λ r is same.
    let memory : e ≡ reading.Memory = only r is (sym same) in
    absurd (cc (malformed, memory))

-- the records whose bodies were read
records_read : (p : Progress) (bodies : List (List ℕ)) → HasComeTo p bodies → (rs : List Record) × AreBodiesOf rs bodies
records_read (InOrder m) bodies h = (h.records, h.are)
records_read (OutOfOrder i) bodies h = (h.0, h.1)

pub come_to_malformed : (p : Progress) (bodies : List (List ℕ)) (i : ℕ) (body : List ℕ) → HasComeTo p bodies → length bodies ≡ i
    → (e : RecordFault) → e ≡ reading.Malformed → ((r : Record) → IsRecord r → body ≡ spelled r → Gives (Err e) r) → IsFirstMalformed i (bodies ++ body ∷ [])
come_to_malformed p bodies i body h at e malformed only =
    let read = records_read p bodies h in
    malformed_behind read.0 bodies i body read.1 at (no_body body e malformed only)

pub taken_of_all : (e : LogFault) (bodies more all : List (List ℕ)) → all ≡ bodies ++ more → BodyTaken bodies (Err e) → LogRebuilt all (Err e)
taken_of_all Memory bodies more all is h = tt
taken_of_all (Malformed i) bodies more all is h = malformed_of_all i bodies more all h is
taken_of_all (Order i) bodies more all is h = absurd h

-- a list of bodies of which some were taken

pub before_is : (ys : List (Vec ℕ Global)) (i : ℕ) → i ≡ length ys → length (map (λ b. b.items) ys) ≡ i
before_is ys i e = length_mapped (λ b. b.items) ys ∙ sym e

pub whole_is : (vs ys rest more : List (Vec ℕ Global)) (v : Vec ℕ Global) (body : List ℕ) → vs ≡ ys ++ rest → rest ≡ v ∷ more → body ≡ v.items
    → map (λ b. b.items) vs ≡ (map (λ b. b.items) ys ++ body ∷ []) ++ map (λ b. b.items) more
whole_is vs ys rest more v body is next same =
    ap (λ (xs : List (Vec ℕ Global)). map (λ b. b.items) xs) (is ∙ ap (λ (xs : List (Vec ℕ Global)). ys ++ xs) next)
    ∙ mapped_both (λ (b : Vec ℕ Global). b.items) ys (v ∷ more)
    ∙ ap (λ (b : List ℕ). map (λ b. b.items) ys ++ b ∷ map (λ b. b.items) more) (sym same)
    ∙ sym (joined (map (λ b. b.items) ys) (body ∷ []) (map (λ b. b.items) more))
