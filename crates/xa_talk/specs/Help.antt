-- Help for who types a script: its calls with their arguments, a line each.
use Rattle.std.specs.Prelude.{ℕ, Bool, ◌&&◌, List, codes, bytes_eq}

-- a line asks for it, where the script is typed
abbrev pub asks_help : Bool → List ℕ → Bool
asks_help typed line = typed && bytes_eq line (codes "help")

abbrev pub help_text : List ℕ
help_text = codes "connect\nN hangup\nN open F NAME\nN close F\nN start F X\nN end F X\nN prepare F X\nN commit F X\nN rollback F X\nN forget F X\nN recover F COUNT\nN get K\nN put K V\nN delete K\nN decide commit X\nN decide rollback X\nN doom X\nN restart\nN trim\nN timeout S\nN tick M\nN branches COUNT\nN branches COUNT X\nN status\nN hello\nN metrics\nN disconnect M\nN sessions X\nN shutdown\n"
