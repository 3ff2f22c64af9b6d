-- Bands in which a leg and a segment are near on an axis.
use Rattle.route_geometry.specs.declared.side.Side.{Side}
use Rattle.route_geometry.specs.declared.band.Band.{Band}
use Rattle.route_geometry.specs.Side.{Place, IsWithin}

-- the place is in the band: within both of its sides
abbrev pub IsInBand : Place → Band → Type 0
IsInBand p band = IsWithin p band.low × IsWithin p band.high

-- some place is within the side and in the band
abbrev pub SideMeetsBand : Side → Band → Type 0
SideMeetsBand f band = (p : Place) × IsWithin p f × IsInBand p band

-- some place is in both bands
abbrev pub BandsMeet : Band → Band → Type 0
BandsMeet x y = (p : Place) × IsInBand p x × IsInBand p y
