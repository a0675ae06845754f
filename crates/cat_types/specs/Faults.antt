-- How the faults of references are called.
use Rattle.std.specs.Prelude.{ℕ, List, codes}
use Rattle.cat_types.specs.declared.fault.RefFault.{RefFault}
use Rattle.cat_types.specs.declared.fault.RefFault.TheVariants.{Shape, NoKind, BadKind, BadNamespace, BadName, NoMemory}

-- the name of a fault
abbrev pub fault_text : RefFault → List ℕ
fault_text Shape = codes "Shape"
fault_text NoKind = codes "NoKind"
fault_text BadKind = codes "BadKind"
fault_text BadNamespace = codes "BadNamespace"
fault_text BadName = codes "BadName"
fault_text NoMemory = codes "NoMemory"
