-- What a server has counted, as Prometheus reads it.
use Rattle.std.specs.Prelude.{ℕ, List, [], ◌++◌, Option, codes}
use Rattle.std.specs.Option.{option_map_or}
use Rattle.xa_operate.specs.Families.{family_text}
use Rattle.xa_operate.specs.Histograms.{histogram_text}
use Rattle.xa_operate.specs.Metrics.{metric}
use Rattle.xa_operate.specs.Told.{told}
use Rattle.xa_operate.specs.declared.family.Family.TheVariants.{Calls, Codes}
use Rattle.xa_operate.specs.declared.histogram.Histogram.TheVariants.{Syncs, Groups}

-- a metric, if its number is told
abbrev pub lone_metric : List ℕ → List ℕ → List ℕ → Option ℕ → List ℕ
lone_metric name type help number = option_map_or (metric name type help) number []

abbrev pub connection_metrics : List ℕ → List ℕ
connection_metrics numbers =
    lone_metric (codes "xarm_connections_accepted_total") (codes "counter")
    (codes "Connections accepted since the server started.") (told numbers 1)
    ++ lone_metric (codes "xarm_connections_refused_total") (codes "counter")
    (codes "Connections closed at once since the server started, as too many were open.") (told numbers 2)

abbrev pub memory_metric : List ℕ → List ℕ
memory_metric numbers =
    lone_metric (codes "xarm_resident_memory_bytes") (codes "gauge") (codes "Memory of the server in use.") (told numbers 6)

abbrev pub counted_text : List ℕ → List ℕ
counted_text numbers =
    connection_metrics numbers ++ family_text Calls numbers ++ family_text Codes numbers ++ histogram_text Syncs numbers
    ++ histogram_text Groups numbers ++ memory_metric numbers
