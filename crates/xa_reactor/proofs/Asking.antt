-- Asks that are answered together.
use Rattle.std.proofs.Common.{◌≡◌, ◌∙◌, ℕ, Bool, true, List, [], ◌∷◌, ◌++◌, drop, get_or, set, take, Option, Some, None, Result, refl, sym, ap, inl, subst}
use Rattle.std.specs.Prelude.{All, IsSomeAnd, MatchOption}
use Rattle.std.proofs.lemmas.List.Elements.{All-cons, All-get_or, All-head, All-nil, All-push, All-same, All-set, All-tail, All-weaker}
use Rattle.xa_assoc.specs.declared.fault.ConnectFault.{ConnectFault}
use Rattle.xa_connection.specs.declared.connection.Connection.{Connection}
use Rattle.xa_connection.specs.declared.front.Front.{Front}
use Rattle.xa_connection.specs.declared.front.Front.TheVariants.{Whole, Cut, TooLong}
use Rattle.xa_connection.specs.Fronts.{IsShortFront}
use Rattle.xa_frame.specs.Limits.{IsReply, IsRequest}
use Rattle.xa_frame.specs.Questions.{SpellsQuestion}
use Rattle.xa_frame.specs.declared.question.Question.{Question}
use Rattle.xa_frame.specs.declared.question.Question.TheVariants.{Call}
use Rattle.xa_frame.specs.declared.reply.Reply.{Reply}
use Rattle.xa_frame.specs.declared.request.Request.{Request}
use Rattle.xa_roles.specs.declared.role.Role.{Role}
use Rattle.xa_users.specs.declared.users.Users.{Users}
use Rattle.xa_roles.specs.Believed.Roles.{may_ask}
use Rattle.xa_reactor.specs.declared.ask.Ask.{Ask}
use Rattle.xa_reactor.specs.Asking.{HasRequest, IsAnswered, IsAsking, IsLeft, IsLent, IsBrought, MayBeTold, Puts, PutsAll, Tells, TellsEach, TellsOne, TellsSome, TurnedSome}
use Rattle.xa_reactor.specs.Opening.{Opens, OpensAt}
use Rattle.xa_reactor.specs.Believed.Tending.{Seat, Table, Tends, seat_of}
use Rattle.xa_reactor.specs.Turning.{HasAnswered}
use Rattle.xa_reactor.specs.declared.peer.Opened.{Opened}
use Rattle.xa_reactor.specs.declared.peer.Opened.TheVariants.{Asks, Over}
use Rattle.xa_reactor.specs.declared.peer.Peer.{Peer}
use Rattle.xa_reactor.proofs.Doing.{tends_answered, tends_none, tends_twice}

-- what a connection asked was answered at the door
asked : {D : Type 0} (standing : Option Role) (called : D → Question → Reply → D → Type 0) (front : Front) (request : Option Request) (q : Request) (reply : Reply) (c : Connection) (d e : D)
    → IsAsking standing c front request → request ≡ Some q → called d (Call q) reply e → HasAnswered standing called d e
asked standing called (Whole count) (Some r) q reply c d e asks is told =
    let same : q ≡ r = cc is in
    let spells : SpellsQuestion (take count (drop 4 c.input)) (Call r) = asks.2 in (
      take count (drop 4 c.input) ∷ [],
      reply ∷ [],
      (e, inl (inl (r, spells, (asks.3, subst (λ (x : Request). called d (Call x) reply e) same told))), refl),
    )
asked standing called (Whole count) None q reply c d e asks is told = absurd asks
asked standing called Cut request q reply c d e asks is told = absurd asks
asked standing called TooLong request q reply c d e asks is told = absurd asks

-- so it may be asked
pub may_of : (standing : Option Role) (c : Connection) (front : Front) (request : Option Request) → IsAsking standing c front request
    → (q : Request) → request ≡ Some q → may_ask standing (Call q) ≡ true
may_of standing c (Whole count) (Some r) asks q is =
    let same : q ≡ r = cc is in
    subst (λ (x : Request). may_ask standing (Call x) ≡ true) (sym same) asks.3
may_of standing c (Whole count) None asks q is = absurd asks
may_of standing c Cut request asks q is = absurd asks
may_of standing c TooLong request asks q is = absurd asks

-- the session is served under its key, and as long as its request is left, the connection asks so
abbrev Stays : Table → Ask → Type 0
Stays table a =
    (seat : Seat) × (table a.key ≡ Some seat) × (seat.session ≡ a.session)
    × ((q : Request) → a.request ≡ Some q → IsAsking seat.standing a.connection a.front a.request)

-- its reply may be put to its connection, once its request is gone
abbrev Ready : Ask → Type 0
Ready a = IsShortFront a.front × (IsAnswered a → IsReply a.reply)

module _ {D : Type 0} (called : ℕ → D → Question → Reply → D → Type 0) where
  -- what an answer leaves true is left true by those of some
  left_true : (P : Ask → Type 0) → ((d e : D) (a b : Ask) → P a → Tells called d a b e → P b) → (asks told : List Ask) (d e : D)
      → TellsOne called d asks told e → All P asks → All P told
  left_true P one asks told d e tells all =
      All-same P told (set asks tells.place tells.ask) tells.others
      (All-set P asks tells.place tells.ask (one d e _ tells.ask (All-get_or P asks tells.place tells.ask tells.within all) tells.tells) all)

  pub all_left_true : (P : Ask → Type 0) → ((d e : D) (a b : Ask) → P a → Tells called d a b e → P b) → (asks told : List Ask) (d e : D)
      → (before : List (List Ask × D)) → TellsEach called d asks before told e → All P asks → All P told
  all_left_true P one asks told d e [] tells all = All-same P told asks (sym tells.0) all
  all_left_true P one asks told d e (m ∷ ms) tells all =
      left_true P one m.0 told m.1 e tells.1 (all_left_true P one asks m.0 d m.1 ms tells.0 all)

  still_stays : (table : Table) (d e : D) (a b : Ask) → Stays table a → Tells called d a b e → Stays table b
  still_stays table d e a b stays tells = (
    stays.0,
    ap table tells.key ∙ stays.1,
    stays.2 ∙ sym tells.session,
    λ q is. absurd (cc (sym tells.gone ∙ is)),
  )

  still_ready : (d e : D) (a b : Ask) → Ready a → Tells called d a b e → Ready b
  still_ready d e a b ready tells = (subst IsShortFront (sym tells.front) ready.0, λ _. tells.limits)

  -- the connections are those of sessions that are served
  module _ (users : Option Users) (connected : D → Result ℕ ConnectFault → D → Type 0) (left : ℕ → D → D → Type 0) where
    tends_told : (table : Table) (asks told : List Ask) (d e : D) (before : List (List Ask × D)) → TellsEach called d asks before told e
        → All (Stays table) asks → Tends users connected called left table d table e
    tends_told table asks told d e [] tells stay = subst (λ (x : D). Tends users connected called left table d table x) tells.1 (tends_none users connected called left table table d refl)
    tends_told table asks told d e (m ∷ ms) tells stay =
        let one : TellsOne called m.1 m.0 told e = tells.1 in
        let a : Ask = get_or m.0 one.place one.ask in
        let now : Stays table a = All-get_or (Stays table) m.0 one.place one.ask one.within (all_left_true (Stays table) (still_stays table) asks m.0 d m.1 ms tells.0 stay) in
        tends_twice users connected called left table table table d m.1 e
        (tends_told table asks m.0 d m.1 ms tells.0 stay)
        (tends_answered users connected called left table table m.1 e a.key now.0 now.1
        (asked now.0.standing (called now.0.session) a.front a.request one.tells.request one.ask.reply a.connection m.1 e
        (now.3 one.tells.request one.tells.asked) one.tells.asked
        (subst (λ (n : ℕ). called n m.1 (Call one.tells.request) one.ask.reply e) (sym now.2) one.tells.told)) refl)

    pub tends_turned : (table : Table) (asks told : List Ask) (d e : D) → All (IsLent table) asks → TellsSome called d asks told e
        → Tends users connected called left table d table e
    tends_turned table asks told d e lent tells =
        let stay : All (Stays table) asks = All-weaker (IsLent table) (Stays table) (λ a h. (h.seat, h.at, h.session, λ q is. h.opened.1)) asks lent in
        tends_told table asks told d e tells.0 tells.1 stay

  -- what was answered, or is lent still, is so when the replies are put
  abbrev Lasts : Table → Ask → Type 0
  Lasts table a = (q : Request) → a.request ≡ Some q → IsLent table a

  lasts_still : (table : Table) (d e : D) (a b : Ask) → Lasts table a → Tells called d a b e → Lasts table b
  lasts_still table d e a b lasts tells q is = absurd (cc (sym tells.gone ∙ is))

  is_left : (table : Table) (a b : Ask) (asked : Option Request) → a.request ≡ asked → Lasts table a → MatchOption asked (Puts a b) (λ q. b ≡ a) → IsLeft table b
  is_left table a b None none lasts puts = subst (λ (x : Option Request). MatchOption x (Unit {0}) (λ q. IsLent table b)) (sym (puts.request ∙ none)) tt
  is_left table a b (Some q) some lasts same =
      subst (λ (c : Ask). IsLeft table c) (sym same)
      (subst (λ (x : Option Request). MatchOption x (Unit {0}) (λ q. IsLent table a)) (sym some) (lasts q some))

  put_left : (table : Table) (told put : List Ask) → All (Lasts table) told → PutsAll told put → All (IsLeft table) put
  put_left table [] [] last puts = All-nil (IsLeft table)
  put_left table [] (b ∷ put) last puts = absurd puts
  put_left table (a ∷ told) [] last puts = absurd puts
  put_left table (a ∷ told) (b ∷ put) last puts =
      All-cons (IsLeft table) b put (is_left table a b a.request refl (All-head (Lasts table) a told last) puts.0)
      (put_left table told put (All-tail (Lasts table) a told last) puts.1)

  pub left_turned : (table : Table) (asks put : List Ask) (d e : D) → All (IsLent table) asks → TurnedSome called d asks put e → All (IsLeft table) put
  left_turned table asks put d e lent turned =
      put_left table turned.told put
      (all_left_true (Lasts table) (lasts_still table) asks turned.told d e turned.tells.0 turned.tells.1
      (All-weaker (IsLent table) (Lasts table) (λ a h q is. h) asks lent))
      turned.puts

some_left : (table : Table) (a : Ask) (asked : Option Request) → IsLent table a → MatchOption asked (Unit {0}) (λ q. IsLent table a)
some_left table a None lent = tt
some_left table a (Some q) lent = lent

pub are_left : (table : Table) (asks : List Ask) → All (IsLent table) asks → All (IsLeft table) asks
are_left table asks lent = All-weaker (IsLent table) (IsLeft table) (λ a h. some_left table a a.request h) asks lent

left_lent : (table : Table) (a : Ask) (asked : Option Request) → (asked ≡ None → ⊥) → MatchOption asked (Unit {0}) (λ q. IsLent table a) → IsLent table a
left_lent table a None some h = absurd (some refl)
left_lent table a (Some q) some h = h

-- what isn't answered is lent
pub lent_left : (table : Table) (a : Ask) → (IsAnswered a → ⊥) → IsLeft table a → IsLent table a
lent_left table a some h = left_lent table a a.request some h

-- a turn was opened of a connection whose session is served
pub opens_at : {D : Type 0} (called : ℕ → D → Question → Reply → D → Type 0)
    (connected : D → Result ℕ ConnectFault → D → Type 0) (left : ℕ → D → D → Type 0)
    (table : Table) (old : Peer) (key : ℕ) (result : Opened) (new : Peer) (d e : D) → table key ≡ Some (seat_of old)
    → Opens (called old.session) old d key result new e → OpensAt connected called left table d result e
opens_at called connected left table old key (Asks ask) new d e has (lends, same) = (
  record { seat = seat_of old; at = ap table lends.key ∙ has; session = sym lends.session; opened = lends.asks },
  same,
)
opens_at called connected left table old key (Over step) new d e has (answered, carried) = λ users.
    tends_answered users connected called left table table d e key (seat_of old) has answered refl

-- those that are lent stay so while the table stays
pub lent_still : (old new : Table) (asks : List Ask) → new ≡ old → All (IsLent old) asks → All (IsLent new) asks
lent_still old new asks same lent = subst (λ (t : Table). All (IsLent t) asks) (sym same) lent

-- with one more
pub lent_more : (old new : Table) (asks more : List Ask) (ask : Ask) → new ≡ old → more ≡ asks ++ ask ∷ [] → All (IsLent old) asks
    → IsLent new ask → All (IsLent new) more
lent_more old new asks more ask same is lent one =
    All-same (IsLent new) more (asks ++ ask ∷ []) is (All-push (IsLent new) asks ask (lent_still old new asks same lent) one)

pub are_open : (table : Table) (asks : List Ask) → All (IsLent table) asks → All IsBrought asks
are_open table asks lent = All-weaker (IsLent table) IsBrought (λ a h. record { standing = h.seat.standing; opened = h.opened }) asks lent

pub have_requests : (asks : List Ask) → All IsBrought asks → All HasRequest asks
have_requests asks opened = All-weaker IsBrought HasRequest (λ a h. h.opened.0) asks opened

short : (standing : Option Role) (c : Connection) (front : Front) (request : Option Request) → IsAsking standing c front request → IsShortFront front
short standing c (Whole count) (Some q) h = h.1.short
short standing c (Whole count) None h = absurd h
short standing c Cut request h = absurd h
short standing c TooLong request h = absurd h

opened_ready : (a : Ask) (request : Option Request) → a.request ≡ request → IsSomeAnd request IsRequest → IsShortFront a.front → Ready a
opened_ready a (Some q) is has is_short = (is_short, λ gone. absurd (cc (sym is ∙ gone)))
opened_ready a None is has is_short = absurd has

pub are_told : {D : Type 0} (called : ℕ → D → Question → Reply → D → Type 0) (asks told : List Ask) (d e : D) → All IsBrought asks
    → TellsSome called d asks told e → All MayBeTold told
are_told called asks told d e opened tells =
    let ready : All Ready asks = All-weaker IsBrought Ready (λ a h. opened_ready a a.request refl h.opened.0 (short h.standing a.connection a.front a.request h.opened.1)) asks opened in
    All-weaker Ready MayBeTold (λ a h gone. (h.0, h.1 gone)) told
    (all_left_true called Ready (still_ready called) asks told d e tells.0 tells.1 ready)

-- their requests are gone still
pub put_answered : (told put : List Ask) → PutsAll told put → All IsAnswered told → All IsAnswered put
put_answered [] [] puts gone = All-nil IsAnswered
put_answered [] (b ∷ put) puts gone = absurd puts
put_answered (a ∷ told) [] puts gone = absurd puts
put_answered (a ∷ told) (b ∷ put) puts gone =
    All-cons IsAnswered b put (was_put a b a.request (All-head IsAnswered a told gone) refl puts.0) (put_answered told put puts.1 (All-tail IsAnswered a told gone))
  where
    was_put : (a b : Ask) (asked : Option Request) → a.request ≡ None → a.request ≡ asked → MatchOption asked (Puts a b) (λ q. b ≡ a) → IsAnswered b
    was_put a b None none is puts = puts.request ∙ none
    was_put a b (Some q) none is same = absurd (cc (sym none ∙ is))
