-- What the reading of a block's elements tells of its values.
use Rattle.rtp_wire.proofs.Common.{◌≡◌, List, [], ℕ, Option, Some, None, Result, Ok, Err, OnOk, OnErr, refl, sym, subst, ExtensionsForm, ExtensionMap, ExtensionValues, Element, AreElements, AreValues, no_values, AreValues-none, HasValues, BlockHasAllocation, AreValuesStopped}
use Rattle.std.specs.declared.alloc.AllocError.{AllocError}
use Rattle.rtp_ext.specs.Memory.{IsStopped}

pub HasValues-none : (exts : ExtensionMap) (block : Option (ExtensionsForm × List ℕ)) (values : ExtensionValues) → None ≡ block → values ≡ no_values → HasValues exts block values
HasValues-none exts block values block-is none =
    subst (λ (b : Option (ExtensionsForm × List ℕ)). HasValues exts b values) block-is
    (record { elements = []; are_elements = refl; are_values = subst (AreValues exts [] no_values) (sym none) (AreValues-none exts no_values) })

pub HasValues-read : (exts : ExtensionMap) (block : Option (ExtensionsForm × List ℕ)) (form : ExtensionsForm) (body : List ℕ) (elements : List Element) (old new : ExtensionValues)
    (result : Result (Unit {0}) AllocError) → Some (form, body) ≡ block → AreElements form body elements → old ≡ no_values
    → OnOk result ((es : List Element) → AreElements form body es → AreValues exts es old new) → OnOk result (HasValues exts block new)
HasValues-read exts block form body elements old new (Err e) block-is are none read = tt
HasValues-read exts block form body elements old new (Ok u) block-is are none read =
    subst (λ (b : Option (ExtensionsForm × List ℕ)). HasValues exts b new) block-is
    (record { elements = elements; are_elements = are; are_values = subst (λ (v : ExtensionValues). AreValues exts elements v new) none (read elements are) })

-- reading that ended in a refusal
pub AreValuesStopped-refused : (exts : ExtensionMap) (block : Option (ExtensionsForm × List ℕ)) (form : ExtensionsForm) (body : List ℕ) (elements : List Element) (old new : ExtensionValues)
    (result : Result (Unit {0}) AllocError) → Some (form, body) ≡ block → AreElements form body elements → old ≡ no_values
    → OnErr result ((es : List Element) → AreElements form body es → IsStopped exts es old new) → OnErr result (AreValuesStopped exts block new)
AreValuesStopped-refused exts block form body elements old new (Ok u) block-is are none stopped = tt
AreValuesStopped-refused exts block form body elements old new (Err e) block-is are none stopped =
    subst (λ (b : Option (ExtensionsForm × List ℕ)). AreValuesStopped exts b new) block-is
    (record { elements = elements; are_elements = are; is_stopped = subst (λ (v : ExtensionValues). IsStopped exts elements v new) none (stopped elements are) })

-- was refused at an element of the block
pub BlockHasAllocation-stopped : (exts : ExtensionMap) (block : Option (ExtensionsForm × List ℕ)) (values : ExtensionValues) (result : Result (Unit {0}) AllocError)
    → OnErr result (AreValuesStopped exts block values) → OnErr result (BlockHasAllocation exts block)
BlockHasAllocation-stopped exts block values (Ok u) stopped = tt
BlockHasAllocation-stopped exts block values (Err e) stopped = record { elements = stopped.elements; are_elements = stopped.are_elements; has_allocation = stopped.is_stopped.at }
