-- Worked rows: what is printed of counts, and of sessions.
use Rattle.std.specs.Prelude.{ℕ, pos, ◌≡◌, ◌≤◌, suc, List, [], ◌∷◌, ◌++◌, None, Some, codes}
use Rattle.xa_frame.specs.declared.known_branch.BranchState.TheVariants.{Working}
use Rattle.xa_frame.specs.declared.known_branch.KnownBranch.{KnownBranch}
use Rattle.xa_operate.specs.Agendas.{before_asked, sessions_of}
use Rattle.xa_operate.specs.Counted.{memory_metric}
use Rattle.xa_operate.specs.Families.{family_text}
use Rattle.xa_operate.specs.Histograms.{all, bucket_lines, in_buckets, last_lines, number_text}
use Rattle.xa_operate.specs.Lines.{sessions_text}
use Rattle.xa_operate.specs.declared.asking.Asking.TheVariants as asking
use Rattle.xa_operate.specs.declared.family.Family.TheVariants.{Calls, Codes}
use Rattle.xa_operate.specs.declared.format.Format.TheVariants.{Text, Json}
use Rattle.xa_operate.specs.declared.histogram.Histogram.{Histogram}
use Rattle.xa_operate.specs.declared.histogram.Histogram.TheVariants.{Syncs, Groups}
use Rattle.xa_operate.specs.declared.task.Task.TheVariants.{Branches}

-- three gets and no put, seven times XA_OK and once XAER_PROTO, and two groups, of one call and of four; an id that isn't known, and
-- a last number without a count
abbrev pub told_numbers : List ℕ
told_numbers =
    110 ∷ 3 ∷ 111 ∷ 0 ∷ 500 ∷ 7 ∷ 494 ∷ 1 ∷ 3 ∷ 2 ∷ 4 ∷ 5 ∷ 1100 ∷ 1 ∷ 1102 ∷ 1 ∷ 9999 ∷ 1 ∷ 6 ∷ []

pub record CountedSo : Type 0 where
  pub calls : family_text Calls told_numbers ≡
      codes "# HELP xarm_requests_total Calls answered since the server started, by what was called.\n"
      ++ codes "# TYPE xarm_requests_total counter\n"
      ++ codes "xarm_requests_total{call=\"get\"} 3\n"
  pub replies : family_text Codes told_numbers ≡
      codes "# HELP xarm_replies_total Replies since the server started, by their codes.\n"
      ++ codes "# TYPE xarm_replies_total counter\n"
      ++ codes "xarm_replies_total{code=\"XA_OK\"} 7\n"
      ++ codes "xarm_replies_total{code=\"XAER_PROTO\"} 1\n"
  pub buckets : bucket_lines Groups told_numbers 4 ≡
      codes "xarm_group_calls_bucket{le=\"1\"} 1\n"
      ++ codes "xarm_group_calls_bucket{le=\"2\"} 1\n"
      ++ codes "xarm_group_calls_bucket{le=\"4\"} 2\n"
      ++ codes "xarm_group_calls_bucket{le=\"8\"} 2\n"
  pub last : last_lines Groups told_numbers ≡
      codes "xarm_group_calls_bucket{le=\"+Inf\"} 2\n"
      ++ codes "xarm_group_calls_sum 5\n"
      ++ codes "xarm_group_calls_count 2\n"
  pub untold : memory_metric told_numbers ≡ []
  pub seconds : number_text Syncs 16777216 ≡ codes "16.777216"
  pub microseconds : number_text Syncs 64 ≡ codes "0.000064"

-- a branch at work with this many active and suspended associations
abbrev pub working : ℕ → ℕ → KnownBranch
working active suspended =
    record {
      xid = record { format = pos 1; gtrid = 170 ∷ []; bqual = [] };
      state = Working;
      mark = pos 0;
      timestamp = 1;
      associations = record { active = active; suspended = suspended; loose = 1 };
    }

-- the second and the fourth have sessions
abbrev pub page : List KnownBranch
page = working 0 0 ∷ working 2 0 ∷ working 0 0 ∷ working 0 1 ∷ []

pub record ListedSo : Type 0 where
  pub first : before_asked Branches page ≡ working 0 0 ∷ []
  pub others : sessions_of Branches page ≡
      asking.Sessions (working 2 0) (working 0 0 ∷ []) ∷ asking.Sessions (working 0 1) [] ∷ []
  pub some : sessions_text Text (Some (3 ∷ 7 ∷ [])) ≡ codes " 3,7"
  pub none : sessions_text Text (Some []) ≡ codes " -"
  pub untold : sessions_text Text None ≡ codes " -"
  pub some_json : sessions_text Json (Some (3 ∷ 7 ∷ [])) ≡ codes ",\"sessions\":[3,7]"
  pub none_json : sessions_text Json (Some []) ≡ codes ",\"sessions\":[]"
  pub untold_json : sessions_text Json None ≡ []

-- each bucket has those of the one before it, too, and all are counted at the last
pub record Rises (histogram : Histogram) (numbers : List ℕ) : Type 0 where
  pub each : (k : ℕ) → in_buckets histogram numbers k ≤ in_buckets histogram numbers (suc k)
  pub last : (n : ℕ) → n ≤ all numbers n
