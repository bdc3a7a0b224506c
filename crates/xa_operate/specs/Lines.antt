-- The lines that are printed of what a server answers: in words, or each a JSON object.
use Rattle.std.specs.Fmt.{decimal, signed_decimal}
use Rattle.std.specs.Prelude.{ℕ, ℤ, ◌-◌, List, [], ◌∷◌, ◌++◌, Option, Some, None, codes, flat_map}
use Rattle.xa_frame.specs.declared.known_branch.AssociationCounts.{AssociationCounts}
use Rattle.xa_frame.specs.declared.known_branch.KnownBranch.{KnownBranch}
use Rattle.xa_frame.specs.declared.status.Status.{Status}
use Rattle.xa_operate.specs.declared.format.Format.{Format}
use Rattle.xa_operate.specs.declared.format.Format.TheVariants.{Text, Json}
use Rattle.xa_script.specs.Replies.{state_name}
use Rattle.xa_xid.specs.Spelling.{text_of}
use Rattle.xa_xid.specs.Triple.{Triple}

-- a text between quotation marks
abbrev pub quoted : List ℕ → List ℕ
quoted text = (34 ∷ text) ++ 34 ∷ []

-- the front of a line that is about a branch: its XID
abbrev pub xid_front : Format → Triple → List ℕ
xid_front Text xid = text_of xid
xid_front Json xid = codes "{\"xid\":" ++ quoted (text_of xid)

-- a word more, or a member more of the object
abbrev pub member : Format → List ℕ → List ℕ → List ℕ
member Text name value = 32 ∷ value
member Json name value = 44 ∷ quoted name ++ 58 ∷ value

abbrev pub word : Format → List ℕ → List ℕ
word Text text = text
word Json text = quoted text

abbrev pub line_end : Format → List ℕ
line_end Text = 10 ∷ []
line_end Json = 125 ∷ 10 ∷ []

-- the XID of a branch
abbrev pub xid_line : Format → Triple → List ℕ
xid_line format xid = xid_front format xid ++ line_end format

-- an XID, and the code that its rollback was answered
abbrev pub rolled_line : Format → Triple → ℤ → List ℕ
rolled_line format xid code = xid_front format xid ++ member format (codes "code") (signed_decimal code) ++ line_end format

abbrev pub counts_text : Format → AssociationCounts → List ℕ
counts_text format counts =
    member format (codes "active") (decimal counts.active) ++ member format (codes "suspended") (decimal counts.suspended)
    ++ member format (codes "loose") (decimal counts.loose)

abbrev pub behind_comma : ℕ → List ℕ
behind_comma n = 44 ∷ decimal n

abbrev pub behind_commas : List ℕ → List ℕ
behind_commas ns = flat_map behind_comma ns

-- numbers with commas between them
abbrev pub comma_list : List ℕ → List ℕ
comma_list [] = []
comma_list (n ∷ ns) = decimal n ++ behind_commas ns

-- sessions: a dash where there is none, or it isn't known; or a list, which is left out where it isn't known
abbrev pub sessions_text : Format → Option (List ℕ) → List ℕ
sessions_text Text None = codes " -"
sessions_text Text (Some []) = codes " -"
sessions_text Text (Some (n ∷ ns)) = 32 ∷ (decimal n ++ behind_commas ns)
sessions_text Json None = []
sessions_text Json (Some ns) = codes ",\"sessions\":[" ++ comma_list ns ++ codes "]"

-- a branch's XID, state, mark (0 for none), timestamp, and how many active, suspended and loose associations it has
abbrev pub branch_front : Format → KnownBranch → List ℕ
branch_front format b =
    xid_front format b.xid ++ member format (codes "state") (word format (state_name b.state))
    ++ member format (codes "mark") (signed_decimal b.mark) ++ member format (codes "timestamp") (decimal b.timestamp)
    ++ counts_text format b.associations

-- the same, and which sessions' the active and suspended ones are
abbrev pub branch_line : Format → KnownBranch → Option (List ℕ) → List ℕ
branch_line format b sessions = branch_front format b ++ sessions_text format sessions ++ line_end format

abbrev pub xid_lines : Format → List Triple → List ℕ
xid_lines format xids = flat_map (xid_line format) xids

abbrev pub count_line : List ℕ → List ℕ → List ℕ
count_line name digits = (name ++ 32 ∷ digits) ++ 10 ∷ []

abbrev pub count_member : ℕ → List ℕ → List ℕ → List ℕ
count_member mark name digits = mark ∷ quoted name ++ 58 ∷ digits

-- a name and its number: a line, or a member after this mark
unfoldable pub count : Format → ℕ → List ℕ → ℕ → List ℕ
count Text mark name n = count_line name (decimal n)
count Json mark name n = count_member mark name (decimal n)

-- how the lines of counts end
abbrev pub counts_end : Format → List ℕ
counts_end Text = []
counts_end Json = 125 ∷ 10 ∷ []

-- where the log ends
abbrev pub end_text : Format → ℕ → List ℕ
end_text format n = count format 123 (codes "end") n ++ counts_end format

-- how many branches are at work: those that are neither prepared nor completed
abbrev pub at_work : Status → ℕ
at_work s = (s.branches - s.prepared) - s.completed

abbrev pub at_work_text : Format → Status → List ℕ
at_work_text format s = count format 123 (codes "branches at work") (at_work s) ++ counts_end format

abbrev pub log_counts : Format → Status → List ℕ
log_counts format s =
    count format 123 (codes "boot") s.boot ++ count format 44 (codes "end") s.end ++ count format 44 (codes "bytes") s.bytes

abbrev pub branch_counts : Format → Status → List ℕ
branch_counts format s =
    count format 44 (codes "branches") s.branches ++ count format 44 (codes "prepared") s.prepared
    ++ count format 44 (codes "completed") s.completed

abbrev pub server_counts : Format → Status → List ℕ
server_counts format s =
    count format 44 (codes "sessions") s.sessions ++ count format 44 (codes "versions") s.versions
    ++ count format 44 (codes "calls") s.calls ++ count format 44 (codes "seconds") s.seconds

-- how a server is doing
abbrev pub status_text : Format → Status → List ℕ
status_text format s = log_counts format s ++ branch_counts format s ++ server_counts format s ++ counts_end format
