-- Asks that are answered in an order of the door's own.
use Rattle.std.proofs.Common.{◌≡◌, ◌∙◌, ℕ, ◌<◌, zero, suc, arith, List, [], ◌∷◌, ◌++◌, get_or, length, set, Option, Some, None, refl, sym, ap, subst, ◌⊎◌, inl, inr}
use Rattle.std.specs.Prelude.{All, IfSome, IsSomeAnd}
use Rattle.std.proofs.lemmas.List.{set-get_or}
use Rattle.std.proofs.lemmas.List.Elements.{All-head, All-same, All-weaker}
use Rattle.xa_frame.specs.Limits.{IsReply, IsRequest}
use Rattle.xa_frame.specs.declared.question.Question.{Question}
use Rattle.xa_frame.specs.declared.question.Question.TheVariants.{Call}
use Rattle.xa_frame.specs.declared.reply.Reply.{Reply}
use Rattle.xa_frame.specs.declared.request.Request.{Request}
use Rattle.xa_reactor.specs.declared.ask.Ask.{Ask}
use Rattle.xa_reactor.specs.Asking.{HasRequest, IsAnswered, Tells, TellsAll, TellsEach, TellsOne, TellsSome}
use Rattle.xa_reactor.proofs.Asking.{all_left_true}
use Rattle.xa_model.specs.State.{State}
use Rattle.xa_history.specs.Believed.Manages.{Behaviour}
use Rattle.xa_server.specs.Believed.Loops.{Called}
use Rattle.xa_server.specs.Rounds.{IsWithin, TakesBack, TellsAtMost}
use Rattle.xa_tokens.specs.Believed.Account.{Account}

-- where a number is a place, it doesn't matter what there would be elsewhere
pub get_any : {A : Type 0} (xs : List A) (i : ℕ) (a b : A) → i < length xs → get_or xs i a ≡ get_or xs i b
get_any [] i a b lt = absurd (omega (arith, lt))
get_any (x ∷ xs) zero a b lt = refl
get_any (x ∷ xs) (suc i) a b lt = get_any xs i a b (omega (arith, lt))

pub have_requests : (asks : List Ask) → All HasRequest asks → All IsWithin asks
have_requests asks all = All-weaker HasRequest IsWithin (λ a h. is_within a.request h) asks all
  where
    is_within : (request : Option Request) → IsSomeAnd request IsRequest → IfSome request IsRequest
    is_within (Some q) h = h
    is_within None h = absurd h

module _ {D : Type 0} (called : ℕ → D → Question → Reply → D → Type 0) where
  pub tells_none : (asks : List Ask) (d : D) → TellsSome called d asks asks d
  tells_none asks d = ([], (refl, refl))

  pub tells_one : (asks told : List Ask) (d e : D) → TellsOne called d asks told e → TellsSome called d asks told e
  tells_one asks told d e one = ((asks, d) ∷ [], ((refl, refl), one))

  each_twice : (a b c : List Ask) (d e f : D) (ms ns : List (List Ask × D)) → TellsEach called d a ms b e → TellsEach called e b ns c f
      → TellsEach called d a (ns ++ ms) c f
  each_twice a b c d e f ms [] h k =
      subst (λ (xs : List Ask). TellsEach called d a ms xs f) k.0 (subst (λ (x : D). TellsEach called d a ms b x) k.1 h)
  each_twice a b c d e f ms (n ∷ ns) h k = (each_twice a b n.0 d e n.1 ms ns h k.0, k.1)

  pub tells_twice : (a b c : List Ask) (d e f : D) → TellsSome called d a b e → TellsSome called e b c f → TellsSome called d a c f
  tells_twice a b c d e f h k = (k.0 ++ h.0, each_twice a b c d e f h.0 k.0 h.1 k.1)

  -- the ask's request was answered
  pub tells_answer : (ask new : Ask) (d e : D) (request : Request) (reply : Reply) → new.key ≡ ask.key → new.session ≡ ask.session
      → new.connection ≡ ask.connection → new.front ≡ ask.front → ask.request ≡ Some request → new.request ≡ None → new.reply ≡ reply
      → called ask.session d (Call request) reply e → IsReply reply → TellsAtMost called d ask new e
  tells_answer ask new d e request reply key session connection front asked gone replied told limits = inr (record {
    key = key;
    session = session;
    connection = connection;
    front = front;
    request = request;
    asked = asked;
    gone = gone;
    told = subst (λ (r : Reply). called ask.session d (Call request) r e) (sym replied) told;
    limits = subst (λ (r : Reply). IsReply r) (sym replied) limits;
  })

  -- one more was answered, if any
  pub tells_more : (asks told : List Ask) (d e f : D) (i : ℕ) (none new : Ask) → TellsSome called d asks told e → i < length told
      → TellsAtMost called e (get_or told i none) new f → TellsSome called d asks (set told i new) f
  tells_more asks told d e f i none new some lt (inl (same, stays)) =
      let is : told ≡ set told i new = sym (ap (λ (a : Ask). set told i a) same ∙ set-get_or told i none) in
      subst (λ (xs : List Ask). TellsSome called d asks xs f) is (subst (λ (x : D). TellsSome called d asks told x) (sym stays) some)
  tells_more asks told d e f i none new some lt (inr tells) = (
    (told, e) ∷ some.0,
    (
      some.1,
      record {
        place = i;
        within = lt;
        ask = new;
        tells = subst (λ (a : Ask). Tells called e a new f) (get_any told i none new lt) tells;
        others = refl;
      },
    ),
  )

  still_within : (d e : D) (a b : Ask) → IsWithin a → Tells called d a b e → IsWithin b
  still_within d e a b h tells = subst (λ (r : Option Request). IfSome r IsRequest) (sym tells.gone) tt

  pub left_within : (asks told : List Ask) (d e : D) → TellsSome called d asks told e → All IsWithin asks → All IsWithin told
  left_within asks told d e some all = all_left_true called IsWithin still_within asks told d e some.0 some.1 all

  none_each : (told : List Ask) (d e : D) (before : List (List Ask × D)) → TellsEach called d [] before told e → told ≡ []
  none_each told d e [] h = sym h.0
  none_each told d e (m ∷ ms) h =
      let none : length m.0 ≡ 0 = ap (λ (xs : List Ask). length xs) (none_each m.0 d m.1 ms h.0) in
      absurd (omega (arith, none, h.1.within))

  pub none_still : (asks told : List Ask) (d e : D) → asks ≡ [] → TellsSome called d asks told e → told ≡ []
  none_still asks told d e none h = none_each told d e h.0 (subst (λ (xs : List Ask). TellsEach called d xs h.0 told e) none h.1)

-- what is known by a part of a door, asks were answered, or nothing changed
pub tells_by : {D E : Type 0} (called : ℕ → E → Question → Reply → E → Type 0) (f : D → E) (d e : D) (a b : Ask)
    → ((b ≡ a) × (e ≡ d)) ⊎ Tells called (f d) a b (f e) → TellsAtMost (λ s x q r y. called s (f x) q r (f y)) d a b e
tells_by called f d e a b (inl same) = inl same
tells_by called f d e a b (inr t) = inr (record {
  key = t.key;
  session = t.session;
  connection = t.connection;
  front = t.front;
  request = t.request;
  asked = t.asked;
  gone = t.gone;
  told = t.told;
  limits = t.limits;
})

abbrev pub TellsBy : {D E : Type 0} → D → (D → E) → (ℕ → E → Question → Reply → E → Type 0) → List Ask → List Ask → D → Type 0
TellsBy d f called asks told e = TellsSome (λ s x q r y. called s (f x) q r (f y)) d asks told e

-- ---- letters that come back

module _ {M : Type 0} (m : Behaviour M) (start : State → Type 0) (base : ℕ × ℕ) where
  pub takes_none : (asks : List Ask) (a : Account) → TakesBack m start base a asks asks a
  takes_none asks a = record { some = tells_none (Called m start base) asks a; asked = refl }

  pub takes_twice : (asks between told : List Ask) (a b c : Account) → TakesBack m start base a asks between b
      → TakesBack m start base b between told c → TakesBack m start base a asks told c
  takes_twice asks between told a b c h k = record {
    some = tells_twice (Called m start base) asks between told a b c h.some k.some;
    asked = k.asked ∙ h.asked;
  }

  -- one came back, which answered the ask at its place, or none
  pub takes_one : (asks : List Ask) (a b : Account) (i : ℕ) (none new : Ask) → i < length asks
      → TellsAtMost {D = Account} (Called m start base) a (get_or asks i none) new b → b.asked ≡ a.asked
      → TakesBack m start base a asks (set asks i new) b
  takes_one asks a b i none new lt tells same = record {
    some = tells_more (Called m start base) asks asks a a b i none new (tells_none (Called m start base) asks a) lt tells;
    asked = same;
  }

-- ---- what is said of a part of a door is said of the door

unanswered : (request : Option Request) → IsSomeAnd request IsRequest → request ≡ None → ⊥
unanswered (Some q) h none = absurd (cc none)
unanswered None h none = h

-- Between two answers stands a door that has the part. There is one for each part that keeps this, which each call keeps.
-- Where nothing is asked, no answer tells that the door stays.
module _ {D E : Type 0} (f : D → E) (Keeps : E → Type 0) (back : (x : E) → Keeps x → D) (is_back : (x : E) (k : Keeps x) → f (back x k) ≡ x)
    (called : ℕ → E → Question → Reply → E → Type 0)
    (keeps : (session : ℕ) (d : E) (q : Request) (reply : Reply) (e : E) → Keeps d → called session d (Call q) reply e → Keeps e) where
  each_keeps : (asks told : List Ask) (d e : E) (before : List (List Ask × E)) → Keeps d → TellsEach called d asks before told e → Keeps e
  each_keeps asks told d e [] k h = subst Keeps h.1 k
  each_keeps asks told d e (m ∷ ms) k h =
      let one : TellsOne called m.1 m.0 told e = h.1 in
      keeps (get_or m.0 one.place one.ask).session m.1 one.tells.request one.ask.reply e (each_keeps asks m.0 d m.1 ms k h.0) one.tells.told

  lifted_one : (asks told : List Ask) (x y : D) (d e : E) → f x ≡ d → f y ≡ e → TellsOne called d asks told e
      → TellsOne (λ s a q r b. called s (f a) q r (f b)) x asks told y
  lifted_one asks told x y d e p q one =
      let t : Tells called d (get_or asks one.place one.ask) one.ask e = one.tells in
      let a : Ask = get_or asks one.place one.ask in
      record {
        place = one.place;
        within = one.within;
        ask = one.ask;
        tells = record {
          key = t.key;
          session = t.session;
          connection = t.connection;
          front = t.front;
          request = t.request;
          asked = t.asked;
          gone = t.gone;
          told = subst (λ (v : E). called a.session v (Call t.request) one.ask.reply (f y)) (sym p)
              (subst (λ (v : E). called a.session d (Call t.request) one.ask.reply v) (sym q) t.told);
          limits = t.limits;
        };
        others = one.others;
      }

  lifted_each : (asks told : List Ask) (x y : D) (e : E) (m : List Ask × E) (ms : List (List Ask × E)) → Keeps (f x) → f y ≡ e
      → TellsEach called (f x) asks (m ∷ ms) told e → TellsSome (λ s a q r b. called s (f a) q r (f b)) x asks told y
  lifted_each asks told x y e m [] k q h = ((m.0, x) ∷ [], ((h.0.0, refl), lifted_one m.0 told x y m.1 e h.0.1 q h.1))
  lifted_each asks told x y e m (n ∷ ms) k q h =
      let kept : Keeps m.1 = each_keeps asks m.0 (f x) m.1 (n ∷ ms) k h.0 in
      let door : D = back m.1 kept in
      let same : f door ≡ m.1 = is_back m.1 kept in
      let some : TellsSome (λ s a q r b. called s (f a) q r (f b)) x asks m.0 door = lifted_each asks m.0 x door m.1 n ms k same h.0 in
      ((m.0, door) ∷ some.0, (some.1, lifted_one m.0 told door y m.1 e same q h.1))

  lifted_from : (asks told : List Ask) (x y : D) (before : List (List Ask × E)) → Keeps (f x) → (asks ≡ [] → y ≡ x) → All HasRequest asks → All IsAnswered told
      → TellsEach called (f x) asks before told (f y) → TellsSome (λ s a q r b. called s (f a) q r (f b)) x asks told y
  lifted_from [] told x y before k same has none h =
      ([], (sym (none_still called [] told (f x) (f y) refl (before, h)), sym (same refl)))
  lifted_from (a ∷ rest) told x y [] k same has none h =
      absurd (unanswered a.request (All-head HasRequest a rest has)
      (All-head IsAnswered a rest (All-same IsAnswered (a ∷ rest) told h.0 none)))
  lifted_from (a ∷ rest) told x y (m ∷ ms) k same has none h = lifted_each (a ∷ rest) told x y (f y) m ms k refl h

  pub lifted : (asks told : List Ask) (x y : D) → Keeps (f x) → (asks ≡ [] → y ≡ x) → All HasRequest asks → All IsAnswered told
      → TellsSome called (f x) asks told (f y) → TellsAll (λ s a q r b. called s (f a) q r (f b)) x asks told y
  lifted asks told x y k same has none h = record { some = lifted_from asks told x y h.0 k same has none h.1; none = none }
