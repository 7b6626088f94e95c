-- A run whose batch is refused.
use Rattle.cn_renamer.proofs.Common.{◌≡◌, arith, ℕ, Bool, List, Option, IfSome, IsBatchFault, bounds_of, records_of, HasWritten, Description, entries_of, IsServeFault, fault_of_batch, until_serve}
use Rattle.cn_texts.specs.declared.reading.batch_fault.BatchFault.{BatchFault}

-- the fault of a run is that of its batch, or want of memory
module _ (fault : BatchFault) where
  pub refused-by : (net : Description) (large : Bool) (entries : ℕ) (known : Option (List ℕ)) → entries ≡ entries_of net.kind net.width
      → IfSome known (λ bytes. IsBatchFault (bounds_of large entries) (records_of bytes) fault)
      → IsServeFault net large known (fault_of_batch fault)
  refused-by net large entries known same is = let batch = rw same at is in grind arith

  -- and nothing was written
  pub none-written : {W : Type 0} (contents : W → Option (List ℕ)) (Is : List ℕ → Type 0) (writer : W)
      → HasWritten contents Is (until_serve (fault_of_batch fault)) writer writer
  none-written contents Is writer = grind arith
