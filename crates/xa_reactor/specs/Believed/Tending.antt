-- What a loop does at its door, from one thing to the next.
use Rattle.std.specs.Prelude.{ℕ, Bool, true, ◌≡◌, ◌≢◌, ◌⊎◌, ◌<◌, length, slice_index_or, List, [], ◌∷◌, Option, Some, None, Result, Ok, Err}
use Rattle.std.specs.Option.{option_map}
use Rattle.slab.specs.Slab.{Slab, get}
use Rattle.xa_assoc.specs.declared.fault.ConnectFault.{ConnectFault}
use Rattle.xa_connection.specs.Believed.Access.{AnswersAllTo}
use Rattle.xa_frame.specs.declared.reply.Reply.{Reply}
use Rattle.xa_frame.specs.declared.question.Question.{Question}
use Rattle.xa_frame.specs.declared.question.Question.TheVariants.{Call}
use Rattle.xa_frame.specs.declared.request.Request.{Request}
use Rattle.xa_frame.specs.declared.request.Request.TheVariants.{Tick}
use Rattle.xa_frame.specs.Spelling.{SpellsRequest}
use Rattle.xa_roles.specs.declared.role.Role.{Role}
use Rattle.xa_roles.specs.declared.role.Role.TheVariants.{Operator}
use Rattle.xa_roles.specs.Believed.Roles.{may_ask}
use Rattle.xa_scram.specs.Believed.Exchanges.{Begun}
use Rattle.xa_scram.specs.declared.opening.Opening.{Opening}
use Rattle.xa_users.specs.Believed.Logins.{Shows, begun}
use Rattle.xa_users.specs.declared.users.Users.{Users}
use Rattle.xa_reactor.specs.Aside.{Visits}
use Rattle.xa_reactor.specs.declared.common.Settings.{Settings}
use Rattle.xa_reactor.specs.declared.loops.Ended.{Ended}
use Rattle.xa_reactor.specs.declared.loops.Seed.{Seed}
use Rattle.xa_reactor.specs.declared.peer.Peer.{Peer}
use Rattle.xa_reactor.specs.declared.trimming.TheConstants.{TRIM}

-- each loop did what these settings ask
abbrev pub HaveObeyed : {D : Type 0} → Settings → List (Ended D) → Type 0
HaveObeyed {D} settings ended =
    (i : ℕ) (e : Ended D) → i < length ended → (slice_index_or ended i e).settings ≡ settings

-- a session that is served, the role that its connection has shown, if any, and the login that it has begun, if one
pub record Seat : Type 0 where
  pub session : ℕ
  pub standing : Option Role
  pub login : Option Begun

-- the role of a connection from its beginning: none if there are users, who have to log in, else an operator's
abbrev pub first_standing : Option Users → Option Role
first_standing None = Some Operator
first_standing (Some users) = None

-- what is served under each key
abbrev pub Table : Type 0
Table = ℕ → Option Seat

abbrev pub nobody : Table
nobody key = None

abbrev pub seat_of : Peer → Seat
seat_of p = record { session = p.session; standing = p.standing; login = p.login }

abbrev pub sessions_of : Slab Peer → Table
sessions_of peers key = option_map seat_of (get peers key)

-- the new table has this under the key, and else what the old one had
pub record Puts (old new : Table) (key : ℕ) (seat : Option Seat) : Type 0 where
  pub changed : new key ≡ seat
  pub others : (other : ℕ) → other ≢ key → new other ≡ old other

-- a call of a session that is served, which its connection may ask, was posted, to be answered later
pub record Posts {D : Type 0} (posts : ℕ → Request → D → D → Type 0) (old new : Table) (d e : D) : Type 0 where
  pub key : ℕ
  pub seat : Seat
  pub has : old key ≡ Some seat
  pub request : Request
  pub may : may_ask seat.standing (Call request) ≡ true
  pub posted : posts seat.session request d e
  pub same : old ≡ new

-- one thing after the other, with the table and the door before each, the last one's first
abbrev pub DoesAll : {D : Type 0} → (Table → Table → D → D → Type 0) → Table → D → List (Table × D) → Table → D → Type 0
DoesAll does old d [] new e = (old ≡ new) × (d ≡ e)
DoesAll does old d (m ∷ ms) new e = DoesAll does old d ms m.0 m.1 × does m.0 new m.1 e

abbrev pub DoesSome : {D : Type 0} → (Table → Table → D → D → Type 0) → Table → D → Table → D → Type 0
DoesSome {D} does old d new e = (before : List (Table × D)) × DoesAll does old d before new e

-- what a loop asks of its own accord: a Trim, or what the time is
abbrev pub IsOwn : List ℕ → Type 0
IsOwn content = (content ≡ TRIM) ⊎ ((moment : ℕ) × SpellsRequest content (Tick moment))

-- The connection of a session that is served has begun a login, in place of any other one, as one of these users, or as nobody
-- that they are: it was asked to prove, with bytes of the server's own.
pub record Begins (users : Users) (old new : Table) : Type 0 where
  pub key : ℕ
  pub seat : Seat
  pub has : old key ≡ Some seat
  pub opening : Opening
  pub own : List ℕ
  pub secret : List ℕ
  pub puts : Puts old new key (Some (record seat { login = Some (begun users opening own secret) }))

-- By the login that it had begun it has shown to be one of them, and has the role of that one; the login is over.
pub record Admits (users : Users) (old new : Table) : Type 0 where
  pub key : ℕ
  pub seat : Seat
  pub has : old key ≡ Some seat
  pub login : Begun
  pub began : seat.login ≡ Some login
  pub message : List ℕ
  pub role : Role
  pub shows : Shows users login message role
  pub puts : Puts old new key (Some (record seat { standing = Some role; login = None }))

-- It has shown nothing, and what it had begun is over.
pub record Denies (old new : Table) : Type 0 where
  pub key : ℕ
  pub seat : Seat
  pub has : old key ≡ Some seat
  pub puts : Puts old new key (Some (record seat { login = None }))

-- a part of a login, if there are users
abbrev pub LogsIn : Option Users → Table → Table → Type 0
LogsIn None old new = ⊥
LogsIn (Some users) old new = Begins users old new ⊎ (Admits users old new ⊎ Denies old new)

-- by who may log in, if anybody has to, and by what a connect, a call of a session and its hang-up do at a door
module _ {D : Type 0} (users : Option Users) (connected : D → Result ℕ ConnectFault → D → Type 0)
    (called : ℕ → D → Question → Reply → D → Type 0) (left : ℕ → D → D → Type 0) where
  -- a session was connected, and is served under a key that was free, with the role that each has at first
  pub record Connects (old new : Table) (d e : D) : Type 0 where
    pub key : ℕ
    pub seat : Seat
    pub free : old key ≡ None
    pub first : (seat.standing ≡ first_standing users) × (seat.login ≡ None)
    pub connects : connected d (Ok seat.session) e
    pub puts : Puts old new key (Some seat)

  -- no session was connected, and who asked is served under no key
  pub record Refuses (old new : Table) (d e : D) : Type 0 where
    pub fault : ConnectFault
    pub refuses : connected d (Err fault) e
    pub same : old ≡ new

  -- a session that is served was answered, frame by frame: only what its connection may ask, at the door
  pub record Converses (old new : Table) (d e : D) : Type 0 where
    pub key : ℕ
    pub seat : Seat
    pub has : old key ≡ Some seat
    pub contents : List (List ℕ)
    pub replies : List Reply
    pub answers : AnswersAllTo seat.standing (called seat.session) d contents replies e
    pub same : old ≡ new

  -- a session that is served was hung up, and is served no more
  pub record Leaves (old new : Table) (d e : D) : Type 0 where
    pub key : ℕ
    pub seat : Seat
    pub has : old key ≡ Some seat
    pub leaves : left seat.session d e
    pub puts : Puts old new key None

  -- the loop asked something of its own accord, by a session that was connected for that and hung up
  pub record Keeps (old new : Table) (d e : D) : Type 0 where
    pub content : List ℕ
    pub own : IsOwn content
    pub reply : Reply
    pub visits : Visits connected called left content d reply e
    pub same : old ≡ new

  -- a part of a login reaches no door
  abbrev pub Does : Table → Table → D → D → Type 0
  Does old new d e =
      Connects old new d e ⊎ (Refuses old new d e ⊎ (Converses old new d e ⊎ (Leaves old new d e ⊎ (Keeps old new d e ⊎ (LogsIn users old new × (d ≡ e))))))

  -- Whatever the loop did if it posts nothing, it was one of these things after the other.
  abbrev pub Tends : Table → D → Table → D → Type 0
  Tends old d new e = DoesSome Does old d new e

-- by what a post does, too
module _ {D : Type 0} (posts : ℕ → Request → D → D → Type 0) (users : Option Users)
    (connected : D → Result ℕ ConnectFault → D → Type 0) (called : ℕ → D → Question → Reply → D → Type 0)
    (left : ℕ → D → D → Type 0) where
  abbrev pub DoesOrPosts : Table → Table → D → D → Type 0
  DoesOrPosts old new d e = Does users connected called left old new d e ⊎ Posts posts old new d e

  -- Whatever the loop did, it was one of these things after the other. So from nobody to nobody each session that was
  -- connected was hung up, once, and only in between it was answered, and its calls were posted: if there are users, only what
  -- the role may ask that it had shown by then, and before that nothing.
  abbrev pub TendsPosting : Table → D → Table → D → Type 0
  TendsPosting old d new e = DoesSome DoesOrPosts old d new e

  -- the same from nobody to nobody, and nothing that was posted is left to be answered, if there was nothing
  pub record HasTended (is_settled : D → Type 0) (d e : D) : Type 0 where
    pub tends : TendsPosting nobody d nobody e
    pub settled : is_settled d → is_settled e

  -- of each door what a loop has made of it
  abbrev pub HaveTended : (D → Type 0) → List D → List (Ended D) → Type 0
  HaveTended is_settled doors ended =
      (i : ℕ) (d : D) (e : Ended D) → i < length doors
      → HasTended is_settled (slice_index_or doors i d) (slice_index_or ended i e).door

  -- the same of what loops began with
  abbrev pub SeedsHaveTended : (D → Type 0) → List (Seed D) → List (Ended D) → Type 0
  SeedsHaveTended is_settled seeds ended =
      (i : ℕ) (s : Seed D) (e : Ended D) → i < length seeds
      → HasTended is_settled (slice_index_or seeds i s).door (slice_index_or ended i e).door
