pub mod StoryFacts
pub mod StoryHosts
pub mod StoryEnd
