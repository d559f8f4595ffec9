-- The names of the rules that setups break.
use Rattle.std.specs.Prelude.{ℕ, List, codes}
use Rattle.setup_rules.specs.declared.fault.SetupFault.{SetupFault}
use Rattle.setup_rules.specs.declared.fault.SetupFault.TheVariants.{KeyLength, Mtu, Times, ExtId, TypeTwice, SsrcZero, SsrcTwice, RidTwice, CacheSize}

abbrev pub setup_fault_name : SetupFault → List ℕ
setup_fault_name KeyLength = codes "KeyLength"
setup_fault_name Mtu = codes "Mtu"
setup_fault_name Times = codes "Times"
setup_fault_name ExtId = codes "ExtId"
setup_fault_name TypeTwice = codes "TypeTwice"
setup_fault_name SsrcZero = codes "SsrcZero"
setup_fault_name SsrcTwice = codes "SsrcTwice"
setup_fault_name RidTwice = codes "RidTwice"
setup_fault_name CacheSize = codes "CacheSize"
