-- What the fields of a reading stand for.
use Rattle.base.specs.declared.key.Key.{Key}
use Rattle.recovery.specs.declared.slots.SlotContent.{SlotContent}
use Rattle.recovery.specs.declared.slots.SlotContent.TheVariants.{Free, Live, Bad}
use Rattle.recovery.specs.declared.slots.Kind.{Kind}
use Rattle.recovery.specs.declared.slots.Kind.TheVariants.{Free as IsFree, Live as IsLive, Bad as IsBad}
use Rattle.recovery.specs.declared.slots.SlotReading.TheInside.{Inside}

-- a key whose place isn't used
abbrev pub no_key : Key
no_key = record { table = 0; key = 0 }

-- what a slot of this kind holds, if this is the key of a live one
abbrev pub content_of : Kind → Key → SlotContent
content_of IsFree key = Free
content_of IsLive key = Live key
content_of IsBad key = Bad

-- what the fields say that the slot holds
abbrev pub content_in : Inside → SlotContent
content_in r = content_of r.kind (record { table = r.table; key = r.key })
